-- What is kept of a block that is coded down to some plane. Its bytes, endings and states are those of a view that equals
-- it, as code finds them that has taken the value apart.
use Rattle.std.proofs.Common.{◌≡◌, ℕ, suc, ◌-◌, ◌*◌, ◌<◌, ◌≤◌, refl, ap, ◌∙◌, arith, List, [], ◌++◌, length, get_or, reverse, subst}
use Rattle.std.proofs.lemmas.List.FromFn.{get_or-map-range_with_len, length-map-range_with_len}
use Rattle.codec_terms.specs.BlockDecisions.{Block, plane_count, decisions}
use Rattle.codec_terms.specs.Mq.{Decision, Encoder, start, coded, coded_from, codeword}
use Rattle.mq_coder.specs.declared.ending.Ending.{Ending}
use Rattle.mq_coder.specs.Endings.{Continues, HasPaused, ending_of}
use Rattle.block_coder.specs.Codes.{Progress, most_decisions, ending_at, endings_of, lowest_of, HasCoded, IsPartOfCode}
use Rattle.block_coder.proofs.Codes.{continues-bytes}

module _ (b : Block) (c : Progress) (h : IsPartOfCode b c) (k : ℕ) (within : k < length c.endings) (v : Progress) (view : v ≡ c) (e : Ending) (at : e ≡ get_or v.endings k e) where
  pub part_ending-is : e ≡ ending_at b (c.planes - suc k)
  part_ending-is =
      at
      ∙ ap (λ (s : Progress). get_or s.endings k e) view
      ∙ ap (λ (xs : List Ending). get_or xs k e) h.endings
      ∙ get_or-map-range_with_len (λ k. ending_at b (c.planes - suc k)) 0 (length c.endings) k k e within (omega arith)

  pub part_ending-continues : (bytes : List ℕ) → bytes ≡ v.bytes → Continues (decisions b (c.planes - suc k)) bytes e
  part_ending-continues bytes p =
      let kept : bytes ≡ c.bytes = p ∙ ap (λ (s : Progress). s.bytes) view in
      rw (kept, part_ending-is) (h.bytes (c.planes - suc k) (omega arith))

  pub part_length-is : e.length ≡ length (codeword (decisions b (c.planes - suc k)))
  unfolding codeword
  part_length-is = ap (λ (e : Ending). e.length) part_ending-is

-- behind the lowest plane that is coded the coder has paused
module _ (b : Block) (c : Progress) (h : IsPartOfCode b c) (v : Progress) (view : v ≡ c) (some : 0 < length v.endings) where
  pub part-paused : (bytes : List ℕ) (e : Ending) → bytes ≡ v.bytes → e ≡ get_or v.endings (length v.endings - 1) e → HasPaused (decisions b (lowest_of c)) bytes e v.states
  part-paused bytes e p q =
      let count : length v.endings ≡ length c.endings = ap (λ (s : Progress). length s.endings) view in
      let k = length v.endings - 1 in
      let within : k < length c.endings = omega arith in
      let last : c.planes - suc k ≡ lowest_of c = omega arith in
      record {
        continues = subst (λ p. Continues (decisions b p) bytes e) last (part_ending-continues b c h k within v view e q bytes p);
        states_are = ap (λ (s : Progress). s.states) view ∙ h.states (omega arith);
      }

-- the coder behind that plane
pub part-coder : (b : Block) (c : Progress) (planes : ℕ) (e : Encoder) → IsPartOfCode b c → c.planes ≡ planes → e ≡ coded (decisions b (planes - length c.endings))
    → HasCoded b planes (length c.endings) c.endings e
part-coder b c planes e h same coder = record {
  endings_are = subst (λ n. c.endings ≡ endings_of b n (length c.endings)) same h.endings;
  coder_is = coder;
  few = subst (λ n. length (decisions b (n - length c.endings)) ≤ most_decisions * length c.endings) same h.few;
}

-- a block of which no bit-plane is coded
pub part-started : ((ds : List Decision) (rest : List ℕ) → Continues ds (reverse (coded ds).registers.bytes ++ rest) (ending_of (coded ds)))
    → (b : Block) (c : Progress) → c.planes ≡ plane_count b → c.endings ≡ [] → ((p : ℕ) → plane_count b ≤ p → decisions b p ≡ []) → IsPartOfCode b c
unfolding coded coded_from start
part-started law b c planes e none =
    let few : length c.endings ≡ 0 = ap length e in
    record {
      planes = planes;
      within = omega arith;
      endings = rw e refl;
      bytes = λ p above. (let nothing = none p (omega arith) in rw nothing (law [] c.bytes));
      states = λ some. absurd (omega arith);
      few = omega (arith, ap length (none (lowest_of c) (omega arith)));
    }

-- what is kept of a coder behind the n highest planes
pub part-coded :
    ((ds later : List Decision) (rest : List ℕ) → Continues ds (reverse (coded_from (coded ds) later).registers.bytes ++ rest) (ending_of (coded ds)))
    → (b : Block) (c : Progress) (planes n : ℕ) (e : Encoder)
    → ((p lower : ℕ) → lower ≤ p → (further : List Decision) × (decisions b lower ≡ decisions b p ++ further))
    → HasCoded b planes n c.endings e → planes ≡ plane_count b → c.planes ≡ planes → n ≤ planes
    → c.bytes ≡ reverse e.registers.bytes → c.states ≡ e.states → IsPartOfCode b c
part-coded law b c planes n e begin h count same within bytes states =
    let size : length c.endings ≡ n = ap length h.endings_are ∙ length-map-range_with_len (λ k. ending_at b (planes - suc k)) 0 n in
    let lowest : lowest_of c ≡ planes - n = omega arith in
    let out : c.bytes ≡ reverse (coded (decisions b (planes - n))).registers.bytes = bytes ∙ ap (λ (e : Encoder). reverse e.registers.bytes) h.coder_is in
    record {
      planes = same ∙ count;
      within = omega arith;
      endings = rw (size, same) h.endings_are;
      bytes = λ p above.
          let further = begin p (planes - n) (omega arith) in
          continues-bytes law (decisions b p) (decisions b (planes - n)) further.0 c.bytes further.1 out;
      states = λ some. rw lowest (states ∙ ap (λ (e : Encoder). e.states) h.coder_is);
      few = rw (lowest, size) h.few;
    }
