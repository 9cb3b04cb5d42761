-- Which frames of the worked history are accepted.
use Rattle.std.proofs.Common.{◌≡◌, ℕ, zero, suc, ◌<◌, ◌≤◌, List, ◌∷◌, ◌++◌, length, take, refl, sym, ◌∙◌, ap}
use Rattle.std.proofs.Common.{subst, arith}
use Rattle.std.proofs.lemmas.List.{drop_at, length-append, length-replicate}
use Rattle.disk_terms.specs.Disk.{Image, IsImage}
use Rattle.disk_terms.proofs.Rest.{at_rest-only}
use Rattle.resume_terms.specs.Resumable.{AreIntact, IsAccepted, IsIntact}
use Rattle.resume_terms.specs.Worked.{Name, job, info, picture, worked_text, worked_frame, worked_digest, worked_head}
use Rattle.resume_terms.specs.Worked.{worked_body, worked_record}
use Rattle.resume_terms.specs.Worked.{body_synced, gate_synced}
use Rattle.resume_terms.proofs.Putting.{job-opened}

length-worked_head : length worked_head ≡ 16508
unfolding worked_head
length-worked_head = length-replicate {A = ℕ} 16508 0

worked-intact : (digest : List ℕ → List ℕ) → digest worked_frame ≡ worked_digest → (i : ℕ) → i < 1
    → IsIntact digest worked_record (worked_head ++ worked_frame) i
worked-intact digest right zero below = record {
  opened = refl;
  due = refl;
  inside = simp length-append (omega (arith, length-worked_head));
  proven = ap (λ bytes. digest (take 3 bytes)) (drop_at worked_head worked_frame 16508 length-worked_head) ∙ right;
}
worked-intact digest right (suc i) below = absurd (omega arith)

pub worked-accepted : (digest : List ℕ → List ℕ) → digest worked_frame ≡ worked_digest → (image : Image Name)
    → IsImage gate_synced.newest image
    → IsAccepted job info picture worked_text 1 digest image 1
worked-accepted digest right image left =
    let all : AreIntact 1 digest worked_record (worked_head ++ worked_frame) 1 =
    record { within = omega arith; each = worked-intact digest right; greatest = λ more within _. within } in
    let same_info = at_rest-only worked_record (image info) (left info) in
    let same_picture = at_rest-only (worked_head ++ worked_frame) (image picture) (left picture) in
    record {
      otherwise = λ not. absurd (not (job-opened (gate_synced.newest info) image left));
      this_job = λ _. subst (λ bytes. AreIntact 1 digest bytes (image picture) 1) (sym same_info)
          (subst (λ bytes. AreIntact 1 digest worked_record bytes 1) (sym same_picture) all);
    }

-- A closed record ends the run.
none-greatest : (digest : List ℕ → List ℕ) (bytes : List ℕ) (more : ℕ)
    → ((i : ℕ) → i < more → IsIntact digest (0 ∷ worked_body) bytes i) → more ≤ 0
none-greatest digest bytes zero each = omega arith
none-greatest digest bytes (suc more) each =
    let opened : ◌≡◌ {A = ℕ} 0 1 = (each 0 (omega arith)).opened in
    absurd (cc)

pub worked-none : (digest : List ℕ → List ℕ) (image : Image Name) → IsImage body_synced.newest image
    → IsAccepted job info picture worked_text 1 digest image 0
worked-none digest image left =
    let none : AreIntact 1 digest (0 ∷ worked_body) (image picture) 0 = record {
      within = omega arith;
      each = λ i below. absurd (omega arith);
      greatest = λ more _ each. none-greatest digest (image picture) more each;
    } in
    let same_info = at_rest-only (0 ∷ worked_body) (image info) (left info) in
    record {
      otherwise = λ _. refl;
      this_job = λ _. subst (λ bytes. AreIntact 1 digest bytes (image picture) 0) (sym same_info) none;
    }
