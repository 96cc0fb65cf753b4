use Rattle.std.proofs.Common.{refl, sym, ap, ◌∙◌, ◌<◌, length, arith}
use Rattle.std.proofs.lemmas.Bool.Decides.{nat_tests}
use Rattle.server_message.specs.Parts.{SendingParts}
use Rattle.thread_cell.proofs.HandAll.{first-few, put-first}
use Rattle.thread_cell.proofs.link.Link.put_first.Goals as goal

pub returns-clause-put : goal.returns-clause-put
returns-clause-put c net of =
    let e = c.is_empty.ensures in
    let f = c.if-is_empty.false in
    let some : 0 < length c.args.sent.now.items = grind (arith, nat_tests, e, f) in
    record {
      same = record { neighbour = refl; enter = c.put.ensures.same.0; leave = (((refl, refl, refl, refl), refl), refl) };
      leave = refl;
      one = first-few c.args.self.now.neighbour c.args.sent.now.items;
      put = put-first net c.args.stamp c.args.self.now c.put.new.self c.args.sent.now.items c.remove.result c.index.result.now c.message.inside.to c.message.inside.message c.of.result
          c.into_load.result some c.remove.ensures.value c.index.ensures (ap (λ (z : SendingParts). z.to) (sym c.behind-sent.view_is) ∙ c.if-index-self.false) c.message.view_is of
          c.put.ensures.put c.of.ensures.stamp c.of.ensures.load c.into_load.ensures.load c.into_load.ensures.represents;
    }
