use Rattle.std.proofs.Common.{◌<◌, refl, subst, sym}
use Rattle.base.proofs.Lists.{length-slice_set}
use Rattle.base_pool.specs.Sorted.{place_of}
use Rattle.base_pool.proofs.Keys.{written}
use Rattle.base_pool.proofs.pool.places.Goals as goal

pub loop-number-preserved : goal.loop-number-preserved
loop-number-preserved g c =
    let places = c.loop-number.places.items in
    let number = c.loop-number.number in
    let key = place_of c.args.sorted.now number in
    record {
      long = λ k l. subst (λ n. place_of c.args.sorted.now k < n) (sym (length-slice_set places key number)) (c.loop-number.invariant.long k l);
      written = written g.T.Cover.covering g.T.Cover.order g.met.T.Cover.laws c.args.slab.now.slots c.args.sorted.now c.requires.index places number key c.loop-number-test.true refl
          (c.loop-number.invariant.long number c.loop-number-test.true) c.loop-number.invariant.written;
    }
