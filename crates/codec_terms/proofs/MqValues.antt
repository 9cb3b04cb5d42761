-- Codewords that the charts give, by computing.
use Rattle.std.proofs.Common.{◌≡◌, ℕ, Bool, true, false, List, [], ◌∷◌, refl}
use Rattle.codec_terms.specs.Mq.{Decision, contexts_of, codeword, coded, start, probabilities, row_at, start_states, state_at, qe_of, after_mps, after_lps, last_byte, with_carry, whole_byte_out, stuffed_byte_out, carried_byte_out, byte_out, out_at_zero, doubled, renormalised, lower_part, upper_part, mps_part, lps_part, mps_coded, lps_coded, is_mps, coded_one, coded_from, low_ones, bits_set, shifted_out, without_last_ff, flushed_bytes, decoded, next_byte, behind, add_bits, marker_in, stuffed_byte_in, whole_byte_in, byte_in, first_byte, shifted_in, decoder_of, in_at_zero, read_on, renormalised_reading, is_lower, lower_reading, upper_reading, part_read, read_is_mps, is_quiet, state_after, states_read, decoded_bit, decoder_after, decoded_from}

all_in : ℕ → List Bool → List Decision
all_in k [] = []
all_in k (b ∷ bs) = record { context = k; bit = b } ∷ all_in k bs

none : codeword [] ≡ 0xFF ∷ 0x7F ∷ []
unfolding codeword coded start probabilities row_at start_states state_at qe_of after_mps after_lps last_byte with_carry whole_byte_out stuffed_byte_out carried_byte_out byte_out out_at_zero doubled renormalised lower_part upper_part mps_part lps_part mps_coded lps_coded is_mps coded_one coded_from low_ones bits_set shifted_out without_last_ff flushed_bytes
none = refl

-- a last FF is dropped
one_zero : codeword (all_in 18 (false ∷ [])) ≡ 0x7F ∷ []
unfolding all_in codeword coded start probabilities row_at start_states state_at qe_of after_mps after_lps last_byte with_carry whole_byte_out stuffed_byte_out carried_byte_out byte_out out_at_zero doubled renormalised lower_part upper_part mps_part lps_part mps_coded lps_coded is_mps coded_one coded_from low_ones bits_set shifted_out without_last_ff flushed_bytes
one_zero = refl

twenty : List Bool
twenty =
    false ∷ true ∷ true ∷ true ∷ true ∷ true ∷ true ∷ true ∷ false ∷ true ∷ false ∷ false ∷
    false ∷ false ∷ false ∷ false ∷ false ∷ false ∷ false ∷ false ∷ []

twenty_coded : codeword (all_in 18 twenty) ≡ 0x01 ∷ 0x01 ∷ 0xFF ∷ 0x7F ∷ []
unfolding twenty all_in codeword coded start probabilities row_at start_states state_at qe_of after_mps after_lps last_byte with_carry whole_byte_out stuffed_byte_out carried_byte_out byte_out out_at_zero doubled renormalised lower_part upper_part mps_part lps_part mps_coded lps_coded is_mps coded_one coded_from low_ones bits_set shifted_out without_last_ff flushed_bytes
twenty_coded = refl

twenty_read : decoded (0x01 ∷ 0x01 ∷ 0xFF ∷ 0x7F ∷ []) (contexts_of (all_in 18 twenty)) ≡ twenty
unfolding twenty all_in decoded next_byte behind add_bits marker_in stuffed_byte_in whole_byte_in byte_in first_byte shifted_in decoder_of in_at_zero read_on renormalised_reading is_lower lower_reading upper_reading part_read read_is_mps is_quiet state_after states_read decoded_bit decoder_after decoded_from probabilities row_at start_states state_at qe_of after_mps after_lps
twenty_read = refl
