-- The steps of a main header.
use Rattle.std.proofs.Common.{◌≡◌, ℕ, ◌+◌, refl, sym, List, length, Result, Ok, Err}
use Rattle.std.specs.Prelude.{◌==◌}
use Rattle.codec_terms.specs.declared.reading.MarkerRefusal.{MarkerRefusal}
use Rattle.codec_terms.specs.Reading.{on_ok}
use Rattle.codec_terms.specs.MainReading.{number_at, fields_end, marker_at, size_rules, head_of_size, segments_read, main_read}
use Rattle.code_markers.proofs.Results.{on_ok-was_ok, on_ok-was_err}

module _ (bytes : List ℕ) where
  -- the step past a marker
  abbrev pub past : ℕ → ℕ → Result ℕ MarkerRefusal
  past marker at = on_ok (marker_at bytes (λ m. m == marker) at) (λ m. Ok (at + 2))

  -- behind SOC
  pub record Started (at : ℕ) : Type 0 where
    pub marker : ℕ
    pub there : marker_at bytes (λ m. m == 0xFF4F) 0 ≡ Ok marker
    pub place : at ≡ 2

  pub started : (at : ℕ) → Ok at ≡ past 0xFF4F 0 → Started at
  started at h =
      let was = on_ok-was_ok (marker_at bytes (λ m. m == 0xFF4F) 0) 2 at (sym h) in
      record { marker = was.0.0; there = was.0.1; place = sym was.1 }

  -- behind SIZ
  pub record Sized (at : ℕ) : Type 0 where
    pub marker : ℕ
    pub there : marker_at bytes (λ m. m == 0xFF51) 2 ≡ Ok marker
    pub place : at ≡ 4

  pub sized : (from at : ℕ) → Started from → Ok at ≡ past 0xFF51 from → Sized at
  sized from at start h =
      let was = on_ok-was_ok (marker_at bytes (λ m. m == 0xFF51) 2) 4 at (sym (rw start.place at h)) in
      record { marker = was.0.0; there = was.0.1; place = sym was.1 }

  pub main_read-no_start : (e : MarkerRefusal) → Err e ≡ past 0xFF4F 0 → main_read bytes ≡ Err e
  unfolding main_read
  main_read-no_start e h = rw (on_ok-was_err (marker_at bytes (λ m. m == 0xFF4F) 0) 2 e (sym h)) refl

  pub main_read-no_size : (from : ℕ) (e : MarkerRefusal) → Started from → Err e ≡ past 0xFF51 from → main_read bytes ≡ Err e
  unfolding main_read
  main_read-no_size from e start h =
      rw (start.there, on_ok-was_err (marker_at bytes (λ m. m == 0xFF51) 2) 4 e (sym (rw start.place at h))) refl

  -- the fields of SIZ
  abbrev pub size_end : ℕ → Result ℕ MarkerRefusal
  size_end at = fields_end bytes (size_rules (number_at bytes (at + 4) 4) (number_at bytes (at + 8) 4)) at

  pub main_read-other_size : (from at : ℕ) (e : MarkerRefusal) → Started from → Sized at → Err e ≡ size_end at → main_read bytes ≡ Err e
  unfolding main_read
  main_read-other_size from at e start size h = rw (start.there, size.there, sym (rw size.place at h)) refl

  pub main_read-segments : (from at next : ℕ) → Started from → Sized at → Ok next ≡ size_end at
      → main_read bytes ≡ segments_read bytes (length bytes) (head_of_size bytes (number_at bytes (at + 4) 4) (number_at bytes (at + 8) 4)) next
  unfolding main_read
  main_read-segments from at next start size h = rw (size.place, start.there, size.there, sym (rw size.place at h)) refl
