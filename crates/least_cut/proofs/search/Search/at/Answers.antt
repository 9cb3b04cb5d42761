use Rattle.std.proofs.Common.{◌≤◌, inl, sym, ◌∙◌, arith}
use Rattle.least_cut.proofs.search.Search.at.Goals as goal

pub returns-clause-of : goal.returns-clause-of
returns-clause-of c = λ q coded.
    let reached : c.at-sizes.result.cut ≤ c.args.cut = omega (arith, c.at-sizes.ensures.cut) in
    record {
      size = c.size_laws.ensures;
      fits = coded.fits;
      last = c.requires.cut;
      reached = reached;
      sizes_of = c.at-sizes.ensures.of q coded;
      floors_of = c.at.ensures.of q coded;
      near = inl (c.at.ensures.cut ∙ sym c.at-sizes.ensures.cut);
      best_of = c.best_with.ensures c.args.cut c.args.blocks.now.shape q c.requires.cut reached (c.at-sizes.ensures.of q coded)
          (λ other above below within. absurd (omega (arith, c.at-sizes.ensures.cut)));
    }
