use Rattle.std.proofs.Common.{rules, arith, ◌≡◌, ◌∙◌, append_assoc, List, ℕ, ◌++◌, [], refl, length, get_or, ◌<◌, ◌^◌}
use Rattle.codec_terms.specs.Bands.{component_bands, resolution_bands}
use Rattle.codec_terms.specs.Codestream.{main_header}
use Rattle.code_markers.proofs.ReadBack.{main_read-written}
use Rattle.code_markers.proofs.writer.main_header.Goals as goal

-- pieces one behind another
six : (o0 o1 o2 o3 o4 o5 o6 a b c d e f : List ℕ) → o0 ≡ [] → o1 ≡ o0 ++ a → o2 ≡ o1 ++ b → o3 ≡ o2 ++ c → o4 ≡ o3 ++ d → o5 ≡ o4 ++ e → o6 ≡ o5 ++ f → o6 ≡ a ++ (b ++ (c ++ (d ++ (e ++ f))))
six o0 o1 o2 o3 o4 o5 o6 a b c d e f h0 h1 h2 h3 h4 h5 h6 = rw (h6, h5, h4, h3, h2, h1, h0) (simp append_assoc)

written : (c : goal.After-from) → c.from.result ≡ main_header c.args.shape c.args.parts c.args.cut
unfolding main_header component_bands resolution_bands
written c =
    c.from.ensures ∙ six c.in_ok-out.out.items c.extend_from_slice.new.self.items c.extend_from_slice-2.new.self.items c.extend_from_slice-3.new.self.items c.extend_from_slice-4.new.self.items c.extend_from_slice-5.new.self.items c.extend_from_slice-6.new.self.items
    _ _ _ _ _ _ c.in_ok-out.ensures.items c.in_ok-extend_from_slice.ensures.items c.in_ok-extend_from_slice-2.ensures.items c.in_ok-extend_from_slice-3.ensures.items c.in_ok-extend_from_slice-4.ensures.items c.in_ok-extend_from_slice-5.ensures.items c.in_ok-extend_from_slice-6.ensures.items
    ∙ rw (c.size_segment.ensures, c.lengths_segment.ensures, c.cut_segment.ensures) refl

pub returns-clause-bytes : goal.returns-clause-bytes
returns-clause-bytes c = written c

pub returns-clause-read_back : goal.returns-clause-read_back
returns-clause-read_back c = λ rest size.
    let three : length c.args.parts ≡ 3 = search rules in
    let small : (k : ℕ) → get_or c.args.parts k 0 < 2 ^ 32 = search rules in
    main_read-written c.args.shape c.args.parts c.from.result rest c.args.cut three small (omega arith) (written c) size
