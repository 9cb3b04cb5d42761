-- What the canonical text is, and that it reads back.
use Rattle.std.proofs.Common.{◌≡◌, ℕ, ◌<◌, ◌≤◌, List, length, false, Some, Ok, sym, ap, ◌∙◌, subst, arith}
use Rattle.std.specs.Str.{IsUtf8}
use Rattle.serde_json.specs.Data.{Data, depth}
use Rattle.serde_json.specs.Read.{read}
use Rattle.serde_json.specs.Written.{has_float, compact_text}
use Rattle.film_project.specs.Accepts.{accepts, project_fault, project_in, project_or}
use Rattle.film_project.specs.Canonical.{project_data}
use Rattle.film_project.specs.Facts.{ProjectFacts}
use Rattle.film_project.specs.Rules.{IsProject}
use Rattle.film_printer.proofs.BackTop.{project_ok, project_back}
use Rattle.film_printer.proofs.Shape.{project_whole, project_deep}
use Rattle.film_printer.proofs.Sizes.{project_size}
use Rattle.film_project.proofs.Whole.{accepts-read}

-- the text of a value that is the project's
pub printed : (text : List ℕ) (d : Data) (p : ProjectFacts) → d ≡ project_data p → (has_float d ≡ false → text ≡ compact_text d)
    → text ≡ compact_text (project_data p)
printed text d p e f = f (ap has_float e ∙ project_whole p) ∙ ap compact_text e

pub printed_short : (text : List ℕ) (p : ProjectFacts) → IsProject p → text ≡ compact_text (project_data p) → length text < 4400000
printed_short text p r e = subst (λ s. length s < 4400000) (sym e) (project_size p r)

accepted : (p : ProjectFacts) (d : Data) → IsProject p → d ≡ project_data p → project_or (project_fault d) (project_in d) ≡ Ok p
accepted p d r e =
    ap (λ b. project_or (project_fault b) (project_in b)) e ∙ ap (λ f. project_or f (project_in (project_data p))) (project_ok p r) ∙ ap Ok (project_back p r)

pub printed_back : (text : List ℕ) (d : Data) (p : ProjectFacts) → IsProject p → d ≡ project_data p → (has_float d ≡ false → text ≡ compact_text d) → IsUtf8 text
    → (depth d ≤ 127 → read text ≡ Some d) → accepts text ≡ Ok p
printed_back text d p r e f utf8 back =
    let shallow : depth d ≤ 127 = subst (λ b. depth b ≤ 127) (sym e) (project_deep p) in
    let short : length text < 4400000 = printed_short text p r (printed text d p e f) in
    accepts-read text d (omega arith) utf8 (back shallow) ∙ accepted p d r e
