use Rattle.std.proofs.Common.{◌≡◌, ◌≤◌, ◌+◌, ◌-◌, ℕ, inl, sym, subst, arith}
use Rattle.block_packets.specs.Coded.{AreCodedBlocks}
use Rattle.cinema_stream.specs.Books.{IsBookOf}
use Rattle.least_cut.specs.Below.{IsBest}
use Rattle.least_cut.proofs.search.Search.with_next.Goals as goal

pub returns-clause-of : goal.returns-clause-of
returns-clause-of c = λ first q s coded.
    let a = c.args in
    let shape = a.blocks.now.shape in
    let reached : c.raise-2.new.self.cut ≤ first = omega (arith, c.raise-2.ensures.cut, s.reached) in
    let next : a.self.sizes.cut ≡ c.raise-2.new.self.cut + 1 = omega (arith, c.raise-2.ensures.cut, c.requires.above) in
    let book : IsBookOf shape q c.raise-2.new.self = c.raise-2.ensures.of q coded s.sizes_of in
    record {
      size = s.size;
      fits = s.fits;
      last = s.last;
      reached = reached;
      sizes_of = book;
      floors_of = c.raise.ensures.of q (subst (λ (n : ℕ). AreCodedBlocks q (n - 1) a.blocks.now) (sym c.requires.level) coded) s.floors_of;
      near = inl (omega (arith, c.raise.ensures.cut, c.raise-2.ensures.cut, c.requires.level));
      best_of = c.best_with.ensures first shape q s.last reached book (subst (λ (n : ℕ). IsBest a.limits shape q n first a.self.best) next s.best_of);
    }
