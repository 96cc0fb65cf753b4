use Rattle.std.proofs.Common.{◌≡◌, length, take, refl, subst, ◌∙◌, arith}
use Rattle.std.proofs.lemmas.Option.{slice_get_read}
use Rattle.output_flood.specs.Rows.{HaveRows}
use Rattle.output_flood.proofs.Gathering.{publication_next, rows_all}
use Rattle.output_flood.proofs.rows.rows_of_each.Goals as goal

pub loop-k-preserved : goal.loop-k-preserved
loop-k-preserved c =
    let at = slice_get_read c.args.publications.now (length c.args.publications.now) c.loop-k.k c.index-publications-k.result refl (omega arith) c.index-publications-k.is in
    let of = slice_get_read c.args.mets.now (length c.args.mets.now) c.loop-k.k c.index-mets-k.result refl (omega (arith, c.requires.count)) c.index-mets-k.is in record {
      count = c.in_ok-push_rows.ensures.count ∙ c.loop-k.invariant.count;
      rows = publication_next c.args.clients.now c.args.publications.now c.loop-k.k c.index-publications-k.result c.index-mets-k.result c.loop-k.all.items c.push_rows.new.all.items
          (length c.loop-k.all.items) c.loop-k.invariant.count at (c.requires.each c.loop-k.k c.index-publications-k.result c.index-mets-k.result at of)
          c.in_ok-push_rows.ensures.rows c.loop-k.invariant.rows;
    }

pub returns : goal.returns
returns c =
    let end : c.loop-k.k ≡ length c.args.publications.now = omega arith in
    rows_all c.args.clients.now c.args.publications.now c.loop-k.all.items c.loop-k.invariant.count
    (subst (λ z. HaveRows c.args.clients.now (take z c.args.publications.now) c.loop-k.all.items) end c.loop-k.invariant.rows)
