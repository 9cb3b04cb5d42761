-- A coder that pauses, and one that goes on.
use Rattle.std.proofs.Common.{◌≡◌, ℕ, List, [], ◌++◌, reverse, sym, ap, subst, ◌∙◌, append-nil}
use Rattle.codec_terms.specs.Mq.{Decision, Encoder, State, start, coded, coded_from}
use Rattle.mq_coder.specs.Endings.{Continues, HasPaused, ending_of}
use Rattle.mq_coder.specs.declared.ending.Ending.{Ending}

pub start-coded : (e : Encoder) → e ≡ start → e ≡ coded []
unfolding coded coded_from
start-coded e p = p

pub run-coded : (e e' : Encoder) (ds : List Decision) → e ≡ start → e' ≡ coded_from e ds → e' ≡ coded ds
unfolding coded
run-coded e e' ds p q = q ∙ ap (λ e. coded_from e ds) p

pub pauses :
    (ds : List Decision) (e : Encoder) (bytes : List ℕ) (ending : Ending) →
    ((ds : List Decision) (rest : List ℕ) → Continues ds (reverse (coded ds).registers.bytes ++ rest) (ending_of (coded ds))) →
    e ≡ coded ds → bytes ≡ reverse e.registers.bytes → ending ≡ ending_of e → Continues ds bytes ending
pauses ds e bytes ending law is_e is_bytes is_ending =
    let whole : reverse (coded ds).registers.bytes ++ [] ≡ bytes =
    append-nil (reverse (coded ds).registers.bytes) ∙ ap (λ e. reverse e.registers.bytes) (sym is_e) ∙ sym is_bytes in
    subst (λ en. Continues ds bytes en) (ap ending_of (sym is_e) ∙ sym is_ending)
    (subst (λ bs. Continues ds bs (ending_of (coded ds))) whole (law ds []))

pub paused :
    (ds : List Decision) (e : Encoder) (bytes : List ℕ) (ending : Ending) (states : List State) →
    ((ds : List Decision) (rest : List ℕ) → Continues ds (reverse (coded ds).registers.bytes ++ rest) (ending_of (coded ds))) →
    e ≡ coded ds → bytes ≡ reverse e.registers.bytes → ending ≡ ending_of e → states ≡ e.states → HasPaused ds bytes ending states
paused ds e bytes ending states law is_e is_bytes is_ending is_states =
    record {
      continues = pauses ds e bytes ending law is_e is_bytes is_ending;
      states_are = is_states ∙ ap (λ e. e.states) is_e;
    }
