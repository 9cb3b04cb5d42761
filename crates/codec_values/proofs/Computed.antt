-- What the worked values compute with: a proof names one of these on its `unfolding` line.
use Rattle.std.specs.Prelude.{ℕ}
use lib.Count.{count_leading_zeros}
use Rattle.codec_terms.specs.Colour.{greatest_from, code_value, xyz_plane}
use Rattle.codec_terms.specs.Grid.{grid_of, columns_of, of_parts}
use Rattle.codec_terms.specs.Wavelet.{component, lifted, even_samples, odd_samples, transformed_line, level, transformed}
use Rattle.codec_terms.specs.Bands.{resolution_bands, component_bands, all_bands, band_values}
use Rattle.codec_terms.specs.Precincts.{packet_order}
use Rattle.codec_terms.specs.Bits.{low_bits}
use Rattle.codec_terms.specs.Mq.{probabilities, row_at, start_states, state_at, qe_of, after_mps, after_lps, start, last_byte, with_carry, whole_byte_out, stuffed_byte_out, carried_byte_out, byte_out, out_at_zero, doubled, renormalised, lower_part, upper_part, mps_part, lps_part, mps_coded, lps_coded, is_mps, coded_one, coded_from, coded, low_ones, bits_set, shifted_out, without_last_ff, flushed_bytes, codeword, next_byte, behind, add_bits, marker_in, stuffed_byte_in, whole_byte_in, byte_in, first_byte, shifted_in, decoder_of, in_at_zero, read_on, renormalised_reading, is_lower, lower_reading, upper_reading, part_read, read_is_mps, is_quiet, state_after, decoded_bit, states_read, decoder_after, decoded_from, decoded}
use Rattle.codec_terms.specs.Contexts.{is_in, horizontal, vertical, diagonal, zero_context, zero_context_at, contribution, horizontal_sign, vertical_sign, sign_context, sign_context_at, refine_context, refine_context_at, in_fours, scan}
use Rattle.codec_terms.specs.Passes.{further_passes, passes_down_to}
use Rattle.codec_terms.specs.BlockDecisions.{plane_bit, with_decision, zero_context_of, sign_told, bit_told, is_reached, visited_at, propagated, is_refined, is_first, refined, is_left, cleaned, may_run, is_run, run_end, run_told, column_cleaned, column_propagated, column_refined, propagation, refinement, cleanup, pass_told, passes_told, decisions}
use Rattle.codec_terms.specs.BlockReading.{next_bit, behind_bit, known_zero_context, with_magnitude, sign_read, zero_bit_read, propagation_reads, marked_visited, propagation_at, refinement_context, refined_read, refinement_at, cleanup_reads, cleanup_at, may_read_run, reads_run, run_row, run_broken, run_read, cleanup_column, propagation_column, refinement_column, propagation_read, refinement_read, cleanup_read, pass_read, passes_read, block_read}
use Rattle.codec_terms.specs.TagTree.{levels_from, new_tree, path_bits, path_told, leaves_bits, blank_levels, blank_tree, path_wants, path_pushed}
use Rattle.codec_terms.specs.PacketHeader.{blocks_bits, packed_into, ends_with_ff, packet}
use Rattle.codec_terms.specs.PacketReading.{byte_read, bit_read, number_read, leaf_read_within, pass_count_read, ones_read_within, blocks_read, bands_read, codewords_read, band_codewords_read, packet_read}
use Rattle.codec_terms.specs.Codestream.{block_of, packet_block, packet_band, component_packets, main_header, stream}
use Rattle.codec_terms.specs.MainReading.{number_of, fields_end, segments_read, main_read}
use Rattle.codec_terms.specs.Encode.{wave, kept_coefficients}
use Rattle.codec_terms.specs.Cut.{least_cut}
use Rattle.codec_terms.specs.StreamReading.{packets_read, tile_part_end, parts_read, packet_band_of, precinct_blocks, band_blocks, block_values, band_read_values, stream_read}

unfoldable pub computed_pictures : ℕ
unfolding greatest_from code_value xyz_plane grid_of columns_of of_parts component lifted even_samples odd_samples transformed_line level transformed wave kept_coefficients resolution_bands component_bands all_bands band_values packet_order
computed_pictures = 0

unfoldable pub computed_blocks : ℕ
unfolding count_leading_zeros low_bits probabilities row_at start_states state_at qe_of after_mps after_lps start last_byte with_carry whole_byte_out stuffed_byte_out carried_byte_out byte_out out_at_zero doubled renormalised lower_part upper_part mps_part lps_part mps_coded lps_coded is_mps coded_one coded_from coded low_ones bits_set shifted_out without_last_ff flushed_bytes codeword next_byte behind add_bits marker_in stuffed_byte_in whole_byte_in byte_in first_byte shifted_in decoder_of in_at_zero read_on renormalised_reading is_lower lower_reading upper_reading part_read read_is_mps is_quiet state_after decoded_bit states_read decoder_after decoded_from decoded is_in horizontal vertical diagonal zero_context zero_context_at contribution horizontal_sign vertical_sign sign_context sign_context_at refine_context refine_context_at in_fours scan further_passes passes_down_to plane_bit with_decision zero_context_of sign_told bit_told is_reached visited_at propagated is_refined is_first refined is_left cleaned may_run is_run run_end run_told column_cleaned column_propagated column_refined propagation refinement cleanup pass_told passes_told decisions next_bit behind_bit known_zero_context with_magnitude sign_read zero_bit_read propagation_reads marked_visited propagation_at refinement_context refined_read refinement_at cleanup_reads cleanup_at may_read_run reads_run run_row run_broken run_read cleanup_column propagation_column refinement_column propagation_read refinement_read cleanup_read pass_read passes_read block_read
computed_blocks = 0

unfoldable pub computed_packets : ℕ
unfolding levels_from new_tree path_bits path_told leaves_bits blank_levels blank_tree path_wants path_pushed blocks_bits packed_into ends_with_ff packet byte_read bit_read number_read leaf_read_within pass_count_read ones_read_within blocks_read bands_read codewords_read band_codewords_read packet_read
computed_packets = 0

unfoldable pub computed_streams : ℕ
unfolding block_of packet_block packet_band component_packets main_header stream least_cut number_of fields_end segments_read main_read packets_read tile_part_end parts_read packet_band_of precinct_blocks band_blocks block_values band_read_values stream_read
computed_streams = 0
