-- Where a test tells names apart, a change of one file's trail is possible, and makes one history.
use Rattle.std.proofs.Common.{◌≡◌, ◌≢◌, Bool, true, false, List, refl, sym, ◌∙◌, ap, subst}
use Rattle.std.proofs.Math.Path.{fun_ext}
use Rattle.std.specs.Prelude.{◌↔◌, IsTrue, if◌then◌else◌}
use Rattle.disk_terms.specs.Disk.{Disk, History, IsChanged, Trail, disks}

pub changed-possible : {File : Type 0} (same : File → File → Bool) → ((x y : File) → IsTrue (same x y) ↔ (x ≡ y)) → (file : File) (trail : Trail) (before : History File)
    → (now : History File) × IsChanged file trail before now
changed-possible {File} same tells file trail before =
    let pick : Bool → Trail → Trail = λ b old. if b then trail else old in
    let other_is : (other : File) (b : Bool) → same other file ≡ b → other ≢ file → pick b (before.newest other) ≡ before.newest other =
    λ other. elim [ true ↦ λ is not. absurd (not ((tells other file).0 is)) | false ↦ λ _ _. refl ] in (
      record { newest = λ other. pick (same other file) (before.newest other); earlier = disks before },
      record {
        changed = ap (λ b. pick b (before.newest file)) ((tells file file).1 refl);
        others = λ other not. other_is other (same other file) refl not;
        earlier = refl;
      },
    )

same_trail : {File : Type 0} (same : File → File → Bool) → ((x y : File) → IsTrue (same x y) ↔ (x ≡ y)) → (file : File) (trail : Trail) (before now other : History File)
    → IsChanged file trail before now → IsChanged file trail before other → (name : File) (b : Bool) → same name file ≡ b → other.newest name ≡ now.newest name
same_trail same tells file trail before now other first second name true is =
    let that : name ≡ file = (tells name file).0 is in
    subst (λ n. other.newest n ≡ now.newest n) (sym that) (second.changed ∙ sym first.changed)
same_trail same tells file trail before now other first second name false is =
    let not : name ≢ file = λ that. let both : true ≡ false = sym ((tells name file).1 that) ∙ is in cc in
    second.others name not ∙ sym (first.others name not)

pub changed-one : {File : Type 0} (same : File → File → Bool) → ((x y : File) → IsTrue (same x y) ↔ (x ≡ y)) → (file : File) (trail : Trail) (before now other : History File)
    → IsChanged file trail before now → IsChanged file trail before other → other ≡ now
changed-one {File} same tells file trail before now other first second =
    let newest : other.newest ≡ now.newest = fun_ext (λ name. same_trail same tells file trail before now other first second name (same name file) refl) in
    let earlier : other.earlier ≡ now.earlier = second.earlier ∙ sym first.earlier in
    let make : Disk File → List (Disk File) → History File = λ disk disks. record { newest = disk; earlier = disks } in
    ap (λ disk. make disk other.earlier) newest ∙ ap (λ older. make now.newest older) earlier
