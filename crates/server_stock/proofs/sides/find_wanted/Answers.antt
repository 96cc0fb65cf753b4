use Rattle.std.proofs.Common.{◌&&◌, Bool, ap₂, ◌∙◌}
use Rattle.base_bits.proofs.Passing.{passing-step}
use Rattle.server_stock.specs.Held.{wanted}
use Rattle.server_stock.proofs.sides.find_wanted.Goals as goal

pub loop-i-preserved : goal.loop-i-preserved
loop-i-preserved c =
    let v = c.loop-i.invariant in
    let s = c.put_if.ensures in
    let f = wanted c.args.offered.now.members c.args.held.now.rows c.args.place in
    record {
      width = s.width ∙ v.width;
      members = s.members ∙ passing-step f c.loop-i.i (c.is_needed-needed.result && c.has-is_offered.result) c.loop-i.need.members v.members
          (ap₂ (λ (x y : Bool). x && y) c.is_needed-needed.ensures c.has-is_offered.ensures);
    }
