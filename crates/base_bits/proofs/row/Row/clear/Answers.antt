use Rattle.std.proofs.Common.{ap, ◌∙◌, arith}
use Rattle.std.proofs.lemmas.List.{with_items_is}
use Rattle.base_bits.specs.Words.{members_of}
use Rattle.base_bits.proofs.Rows.{no-members}
use Rattle.base_bits.proofs.row.Row.clear.Goals as goal

pub returns-clause-members : goal.returns-clause-members
returns-clause-members c =
    ap (λ z. members_of z c.self.inside.width) (with_items_is c.self.inside.words c.clear.new.words (omega arith))
    ∙ no-members (record { kept = c.self.invariant; view = c.self.view_is }) c.clear.new.words c.clear.ensures.bits
