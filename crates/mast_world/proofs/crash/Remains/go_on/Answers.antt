use Rattle.std.proofs.Common.{◌≡◌, true, false, [], ◌∷◌, ◌++◌, refl, sym, subst, rules}
use Rattle.std.specs.Prelude.{OnOk}
use Rattle.mast_world.specs.Crash.{AreRemains}
use Rattle.mast_world.specs.FileEntry.{same_file}
use Rattle.mast_world.specs.Log.{file_of}
use Rattle.mast_world.specs.declared.crash.Remains.{Remains}
use Rattle.mast_world.proofs.CrashImages.{remains_cut, remains_other, remains_synced, remains_written}
use Rattle.mast_world.proofs.crash.Remains.go_on.Goals as goal

pub returns-then-not-is_of : goal.returns-then-not-is_of
returns-then-not-is_of c = λ log were.
    let other : same_file c.args.file (file_of c.args.change.now) ≡ false = search rules in
    remains_other c.args.image log c.args.file c.args.change.now c.args.self.now other were

pub returns-in-Written : goal.returns-in-Written
returns-in-Written c = λ log were.
    let own : same_file c.args.file (file_of c.args.change.now) ≡ true = search rules in
    let same : same_file c.args.file c.in-Written.file ≡ true = rw c.in-Written.is at own in
    let done = c.write.ensures in
    subst (λ change. OnOk c.write.result (AreRemains c.args.image (log ++ change ∷ []) c.args.file c.write.new.self)) (sym c.in-Written.is)
    (remains_written c.args.image log c.args.file c.in-Written.file c.in-Written.at c.in-Written.bytes c.args.self.now c.write.new.self c.write.result same
    (rw c.as_slice.ensures at done.bytes) done.least (rw c.as_slice.ensures at done.greatest) were)

pub returns-in-Cut : goal.returns-in-Cut
returns-in-Cut c = λ log were.
    let own : same_file c.args.file (file_of c.args.change.now) ≡ true = search rules in
    let same : same_file c.args.file c.in-Cut.file ≡ true = rw c.in-Cut.is at own in
    let now : Remains = record c.args.self.now { least = c.min-self.result } in
    subst (λ change. AreRemains c.args.image (log ++ change ∷ []) c.args.file now) (sym c.in-Cut.is)
    (remains_cut c.args.image log c.args.file c.in-Cut.file c.in-Cut.size c.args.self.now now same refl c.min-self.ensures refl were)

pub returns-in-Synced : goal.returns-in-Synced
returns-in-Synced c = λ log were.
    let own : same_file c.args.file (file_of c.args.change.now) ≡ true = search rules in
    let same : same_file c.args.file c.in-Synced.file ≡ true = rw c.in-Synced.is at own in
    let done = c.sync.ensures in
    subst (λ change. OnOk c.sync.result (AreRemains c.args.image (log ++ change ∷ []) c.args.file c.sync.new.self)) (sym c.in-Synced.is)
    (remains_synced c.args.image log c.args.file c.in-Synced.file c.in-Synced.bytes c.sync.new.self c.sync.result same
    (rw c.as_slice-in-Synced.ensures at done.bytes) (rw c.as_slice-in-Synced.ensures at done.least) (rw c.as_slice-in-Synced.ensures at done.greatest))
