-- What relates the reader to the encoder, and how a bit of plane p and a sign keep it.
use Rattle.std.proofs.Common.{◌≡◌, ℕ, suc, ◌+◌, ◌*◌, ◌/◌, ◌%◌, ◌^◌, ◌<◌, ◌≤◌, refl, sym, ap, subst, ◌∙◌, Bool, true, false, cond, List, length, get_or, set, pos, unsigned_abs, inl, inr}
use Rattle.std.specs.Int.{is_negative}
use Rattle.std.proofs.lemmas.Bool.{cases_eq, cases_lt, eqb-true, lt-ltb, false≢true, cond-true}
use Rattle.std.proofs.lemmas.Nat.{mul-add-lt}
use Rattle.std.proofs.lemmas.List.{length-set, get_or-map, get_or-set_same, get_or-set_other, get_or_past}
use Rattle.codec_terms.specs.Mq.{Decision, contexts_of, bits_of, decoded, decoded_bit, decoder_after, decoder_of, codeword}
use Rattle.codec_terms.specs.Contexts.{is_in, contains, with_sample, SignContext, sign_context_at, flipped_if, zero_context_at}
use Rattle.codec_terms.specs.BlockDecisions.{Block, Walk, magnitude_at, plane_bit, negatives, with_decision, zero_context_of, sign_told, bit_told}
use Rattle.codec_terms.specs.BlockReading.{Area, Known, next_bit, behind_bit, known_zero_context, with_magnitude, sign_read, zero_bit_read}
use Rattle.block_read_laws.proofs.Decoding.{IsFront, decoder_behind, behind-push, front-push, next-read}
use Rattle.block_read_laws.proofs.Moves.{Moves, stays, followed}
use Rattle.block_read_laws.proofs.Numbers.{bit_from}
use Rattle.block_read_laws.proofs.Signs.{sign_context-same}

abbrev pub area_of : Block → Area
area_of b = record { kind = b.kind; width = b.width; height = b.height }

abbrev pub magnitude : Block → ℕ → ℕ
magnitude b i = unsigned_abs (get_or b.values i (pos 0))

-- the codeword of decisions gives them again, and the block is whole
pub record Coded (b : Block) (ds : List Decision) : Type 0 where
  pub whole : length b.values ≡ b.width * b.height
  pub reads : decoded (codeword ds) (contexts_of ds) ≡ bits_of ds

-- The reader has read what was told, and knows the same sets and the signs of the significant samples. Of a significant
-- sample i it knows the magnitude `level i`; each sample with a bit from q on is significant.
pub record Related (b : Block) (ds : List Decision) (q : ℕ) (level : ℕ → ℕ) (w : Walk) (k : Known) : Type 0 where
  pub decoder : k.decoder ≡ decoder_behind (decoder_of (codeword ds)) w.decisions
  pub significant : k.significant ≡ w.significant
  pub visited : k.visited ≡ w.visited
  pub size : length w.significant ≡ length b.values
  pub visited_size : length w.visited ≡ length b.values
  pub magnitudes_size : length k.magnitudes ≡ length b.values
  pub negative_size : length k.negative ≡ length b.values
  pub signs : (i : ℕ) → i < length b.values → get_or w.significant i false ≡ true
      → get_or k.negative i false ≡ is_negative (get_or b.values i (pos 0))
  pub magnitudes : (i : ℕ) → i < length b.values
      → get_or k.magnitudes i 0 ≡ cond (get_or w.significant i false) (level i) 0
  pub above : (i : ℕ) → i < length b.values → 2 ^ q ≤ magnitude b i → get_or w.significant i false ≡ true

-- the magnitudes of the significant samples may be said in another way
pub with_level : (b : Block) (ds : List Decision) (q : ℕ) (level other : ℕ → ℕ) (w : Walk) (k : Known)
    → Related b ds q level w k
    → ((i : ℕ) → i < length b.values
    → cond (get_or w.significant i false) (level i) 0 ≡ cond (get_or w.significant i false) (other i) 0)
    → Related b ds q other w k
with_level b ds q level other w k r same = record {
  decoder = r.decoder;
  significant = r.significant;
  visited = r.visited;
  size = r.size;
  visited_size = r.visited_size;
  magnitudes_size = r.magnitudes_size;
  negative_size = r.negative_size;
  signs = r.signs;
  magnitudes = λ i inside. r.magnitudes i inside ∙ same i inside;
  above = r.above;
}

-- of a sample whose highest bit is that of p
abbrev pub FromBit : Block → ℕ → (ℕ → ℕ) → Type 0
FromBit b p level = (i : ℕ) → 2 ^ p ≤ magnitude b i → magnitude b i < 2 ^ suc p → level i ≡ 2 ^ p

pub contains-inside : (width : ℕ) (samples : List Bool) (x y : ℕ) → x < width
    → contains width samples x y ≡ get_or samples (y * width + x) false
unfolding is_in
contains-inside width samples x y wide = rw (lt-ltb x width wide) refl

inside-true : (samples : List Bool) (i : ℕ) → get_or samples i false ≡ true → i < length samples
inside-true samples i e = elim (cases_lt i (length samples)) [
  | inl below ↦ below
  | inr past ↦ absurd (false≢true (sym (get_or_past samples i false past) ∙ e))
]

set-true : (samples : List Bool) (i j : ℕ) → get_or samples j false ≡ true → get_or (set samples i true) j false ≡ true
set-true samples i j e = elim (cases_eq j i) [
  | inl same ↦ subst (λ n. get_or (set samples i true) n false ≡ true) (sym same)
      (get_or-set_same samples i true false (inside-true samples i (subst (λ n. get_or samples n false ≡ true) same e)))
  | inr other ↦ get_or-set_other samples i j true false other ∙ e
]

flipped-twice : (flips bit : Bool) → flipped_if flips (flipped_if flips bit) ≡ bit
flipped-twice true true = refl
flipped-twice true false = refl
flipped-twice false bit = refl

pub plane_bit-true : (b : Block) (p x y : ℕ) → plane_bit b p x y ≡ true → 2 ^ p ≤ magnitude b (y * b.width + x)
unfolding plane_bit
plane_bit-true b p x y e = bit_from (magnitude_at b x y) p (eqb-true (magnitude_at b x y / 2 ^ p % 2) 1 e)

-- a decision changes no set
pub told_significant-same : (context : ℕ) (bit : Bool) (w : Walk)
    → (with_decision context bit w).significant ≡ w.significant
unfolding with_decision
told_significant-same context bit w = refl

pub told_visited-same : (context : ℕ) (bit : Bool) (w : Walk) → (with_decision context bit w).visited ≡ w.visited
unfolding with_decision
told_visited-same context bit w = refl

-- a sample is marked as significant
abbrev told_significant : Block → ℕ → ℕ → Walk → Walk
told_significant b x y w = record w { significant = with_sample b.width w.significant x y }

abbrev read_significant : Area → ℕ → ℕ → ℕ → Bool → Known → Known
read_significant a p x y negative k =
    record k {
      magnitudes = set k.magnitudes (y * a.width + x) (2 ^ p);
      negative = set k.negative (y * a.width + x) negative;
      significant = with_sample a.width k.significant x y;
    }

module _ (b : Block) (ds : List Decision) (c : Coded b ds) (p : ℕ) (level : ℕ → ℕ) (from_bit : FromBit b p level) where
  abbrev R : Walk → Known → Type 0
  R = Related b ds (suc p) level

  pub place : (x y : ℕ) → x < b.width → y < b.height → y * b.width + x < length b.values
  place x y wide high = rw c.whole (mul-add-lt y b.width x b.height high wide)

  -- ---- one decision

  decision-back : (context : ℕ) (bit : Bool) (w : Walk) → IsFront (with_decision context bit w).decisions ds
      → IsFront w.decisions ds
  unfolding with_decision
  decision-back context bit w f = front-push w.decisions ds (record { context = context; bit = bit }) f

  decision-on : (context : ℕ) (bit : Bool) (w : Walk) (k : Known) → R w k
      → R (with_decision context bit w) (behind_bit context k)
  unfolding with_decision behind_bit
  decision-on context bit w k r = record {
    decoder = ap (λ d. decoder_after d context) r.decoder
        ∙ sym (behind-push (decoder_of (codeword ds)) w.decisions (record { context = context; bit = bit }));
    significant = r.significant;
    visited = r.visited;
    size = r.size;
    visited_size = r.visited_size;
    magnitudes_size = r.magnitudes_size;
    negative_size = r.negative_size;
    signs = r.signs;
    magnitudes = r.magnitudes;
    above = r.above;
  }

  pub decision-bit : (context : ℕ) (bit : Bool) (w : Walk) (k : Known)
      → IsFront (with_decision context bit w).decisions ds → R w k
      → next_bit context k ≡ bit
  unfolding with_decision next_bit
  decision-bit context bit w k f r =
      ap (λ d. decoded_bit d context) r.decoder
      ∙ next-read ds w.decisions (record { context = context; bit = bit }) c.reads f

  pub decision-moves : (context other : ℕ) (bit : Bool) (w : Walk) (k : Known) → (R w k → context ≡ other)
      → Moves ds R R w (with_decision context bit w) k (behind_bit other k)
  decision-moves context other bit w k same = record {
    back = decision-back context bit w;
    on = λ f r. subst (λ n. R (with_decision context bit w) (behind_bit n k)) (same r) (decision-on context bit w k r);
  }

  -- what follows hangs on the bit
  pub by_bit : (S : Walk → Known → Type 0) (context other : ℕ) (bit : Bool) (w v u : Walk) (k j i : Known)
      → (R w k → context ≡ other)
      → (bit ≡ true → Moves ds R S (with_decision context bit w) v (behind_bit other k) j)
      → (bit ≡ false → Moves ds R S (with_decision context bit w) u (behind_bit other k) i)
      → Moves ds R S w (cond bit v u) k (cond (next_bit other k) j i)
  by_bit S context other true w v u k j i same first second =
      let m : Moves ds R S w v k j = followed (decision-moves context other true w k same) (first refl) in
      let told : Moves ds R S (with_decision context true w) v (behind_bit other k) j = first refl in
      record {
        back = m.back;
        on = λ f r. subst (λ (t : Bool). S v (cond t j i))
            (sym (subst (λ n. next_bit n k ≡ true) (same r) (decision-bit context true w k (told.back f) r)))
            (m.on f r);
      }
  by_bit S context other false w v u k j i same first second =
      let m : Moves ds R S w u k i = followed (decision-moves context other false w k same) (second refl) in
      let told : Moves ds R S (with_decision context false w) u (behind_bit other k) i = second refl in
      record {
        back = m.back;
        on = λ f r. subst (λ (t : Bool). S u (cond t j i))
            (sym (subst (λ n. next_bit n k ≡ false) (same r) (decision-bit context false w k (told.back f) r)))
            (m.on f r);
      }

  -- ---- a sample becomes significant

  -- a sample that isn't significant has no bit above p
  pub none-above : (w : Walk) (k : Known) → R w k → (i : ℕ) → i < length b.values
      → get_or w.significant i false ≡ false → magnitude b i < 2 ^ suc p
  none-above w k r i inside e = elim (cases_lt (magnitude b i) (2 ^ suc p)) [
    | inl below ↦ below
    | inr high ↦ absurd (false≢true (sym e ∙ r.above i inside high))
  ]

  significant-on : (x y : ℕ) (negative : Bool) (w : Walk) (k : Known) → x < b.width → y < b.height
      → get_or w.significant (y * b.width + x) false ≡ false → plane_bit b p x y ≡ true
      → negative ≡ is_negative (get_or b.values (y * b.width + x) (pos 0))
      → R w k → R (told_significant b x y w) (read_significant (area_of b) p x y negative k)
  significant-on x y negative w k wide high none bit sign r =
      let here : ℕ = y * b.width + x in
      let marked : get_or (set w.significant here true) here false
      ≡ true = get_or-set_same w.significant here true false (rw r.size (place x y wide high)) in
      record {
        decoder = r.decoder;
        significant = ap (λ s. with_sample b.width s x y) r.significant;
        visited = r.visited;
        size = length-set w.significant here true ∙ r.size;
        visited_size = r.visited_size;
        magnitudes_size = length-set k.magnitudes here (2 ^ p) ∙ r.magnitudes_size;
        negative_size = length-set k.negative here negative ∙ r.negative_size;
        signs = λ i inside e. elim (cases_eq i here) [
          | inl same ↦
              subst (λ n. get_or (set k.negative here negative) n false ≡ is_negative (get_or b.values n (pos 0)))
              (sym same)
              (get_or-set_same k.negative here negative false (rw r.negative_size (place x y wide high)) ∙ sign)
          | inr other ↦ get_or-set_other k.negative here i negative false other
              ∙ r.signs i inside (sym (get_or-set_other w.significant here i true false other) ∙ e)
        ];
        magnitudes = λ i inside. elim (cases_eq i here) [
          | inl same ↦
              subst (λ n. get_or (set k.magnitudes here (2 ^ p)) n 0
              ≡ cond (get_or (set w.significant here true) n false) (level n) 0) (sym same)
              (get_or-set_same k.magnitudes here (2 ^ p) 0 (rw r.magnitudes_size (place x y wide high))
              ∙ sym (cond-true (get_or (set w.significant here true) here false) (level here) 0 marked
              ∙ from_bit here (plane_bit-true b p x y bit) (none-above w k r here (place x y wide high) none)))
          | inr other ↦ get_or-set_other k.magnitudes here i (2 ^ p) 0 other ∙ r.magnitudes i inside
              ∙ ap (λ (t : Bool). cond t (level i) 0) (sym (get_or-set_other w.significant here i true false other))
        ];
        above = λ i inside more. set-true w.significant here i (r.above i inside more);
      }

  negatives-same : (w : Walk) (k : Known) → R w k → (i : ℕ) → get_or w.significant i false ≡ true
      → get_or (negatives b) i false ≡ get_or k.negative i false
  negatives-same w k r i e =
      let inside : i < length b.values = rw (← r.size) (inside-true w.significant i e) in
      get_or-map is_negative b.values i (pos 0) false inside ∙ sym (r.signs i inside e)

  sign-same : (w : Walk) (k : Known) (x y : ℕ) → R w k
      → sign_context_at b.width w.significant (negatives b) x y ≡ sign_context_at b.width k.significant k.negative x y
  sign-same w k x y r =
      sign_context-same b.width w.significant (negatives b) k.negative x y (negatives-same w k r)
      ∙ ap (λ s. sign_context_at b.width s k.negative x y) (sym r.significant)

  abbrev code_of : Walk → ℕ → ℕ → SignContext
  code_of w x y = sign_context_at b.width w.significant (negatives b) x y

  abbrev sign_of : ℕ → ℕ → Bool
  sign_of x y = is_negative (get_or b.values (y * b.width + x) (pos 0))

  -- the reader's sample by a sign's context
  abbrev sign_by : SignContext → ℕ → ℕ → Known → Known
  sign_by s x y k =
      read_significant (area_of b) p x y (flipped_if s.flips (next_bit s.context k)) (behind_bit s.context k)

  sign-on : (x y : ℕ) (w : Walk) (k : Known) (s : SignContext) → x < b.width → y < b.height
      → get_or w.significant (y * b.width + x) false ≡ false → plane_bit b p x y ≡ true
      → IsFront (with_decision s.context (flipped_if s.flips (sign_of x y)) w).decisions ds → R w k
      → R (told_significant b x y (with_decision s.context (flipped_if s.flips (sign_of x y)) w)) (sign_by s x y k)
  sign-on x y w k s wide high none bit f r =
      let coded : Bool = flipped_if s.flips (sign_of x y) in
      significant-on x y (flipped_if s.flips (next_bit s.context k)) (with_decision s.context coded w)
      (behind_bit s.context k) wide high
      (ap (λ set. get_or set (y * b.width + x) false) (told_significant-same s.context coded w) ∙ none) bit
      (ap (flipped_if s.flips) (decision-bit s.context coded w k f r) ∙ flipped-twice s.flips (sign_of x y))
      (decision-on s.context coded w k r)

  sign_told-is : (x y : ℕ) (w : Walk) → sign_told b x y w
      ≡ told_significant b x y
      (with_decision (code_of w x y).context (flipped_if (code_of w x y).flips (sign_of x y)) w)
  unfolding sign_told with_decision
  sign_told-is x y w = refl

  sign_read-is : (x y : ℕ) (k : Known)
      → sign_read (area_of b) p x y k ≡ sign_by (sign_context_at b.width k.significant k.negative x y) x y k
  unfolding sign_read with_magnitude behind_bit
  sign_read-is x y k = refl

  pub sign-moves : (x y : ℕ) (w : Walk) (k : Known) → x < b.width → y < b.height
      → get_or w.significant (y * b.width + x) false ≡ false → plane_bit b p x y ≡ true
      → Moves ds R R w (sign_told b x y w) k (sign_read (area_of b) p x y k)
  sign-moves x y w k wide high none bit =
      let code : SignContext = code_of w x y in
      let told : Walk = with_decision code.context (flipped_if code.flips (sign_of x y)) w in
      subst (λ v. Moves ds R R w v k (sign_read (area_of b) p x y k)) (sym (sign_told-is x y w))
      (record {
        back = decision-back code.context (flipped_if code.flips (sign_of x y)) w;
        on = λ f r. subst (R (told_significant b x y told))
            (ap (λ s. sign_by s x y k) (sign-same w k x y r) ∙ sym (sign_read-is x y k))
            (sign-on x y w k code wide high none bit f r);
      })

  -- ---- a sample's bit, and its sign where that is 1

  pub zero_context-same : (w : Walk) (k : Known) (x y : ℕ) → R w k
      → zero_context_of b w x y ≡ known_zero_context (area_of b) k x y
  unfolding zero_context_of known_zero_context
  zero_context-same w k x y r = ap (λ s. zero_context_at b.kind b.width s x y) (sym r.significant)

  pub bit-moves : (x y : ℕ) (w : Walk) (k : Known) → x < b.width → y < b.height
      → get_or w.significant (y * b.width + x) false ≡ false
      → Moves ds R R w (bit_told b p x y w) k (zero_bit_read (area_of b) p x y k)
  unfolding bit_told zero_bit_read with_decision
  bit-moves x y w k wide high none =
      let context : ℕ = known_zero_context (area_of b) k x y in
      let told : Walk = with_decision (zero_context_of b w x y) (plane_bit b p x y) w in
      by_bit R (zero_context_of b w x y) context (plane_bit b p x y) w
      (sign_told b x y told) told k (sign_read (area_of b) p x y (behind_bit context k)) (behind_bit context k)
      (zero_context-same w k x y)
      (λ e. sign-moves x y told (behind_bit context k) wide high none e)
      (λ e. stays ds R told (behind_bit context k))
