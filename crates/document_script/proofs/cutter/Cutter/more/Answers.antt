use Rattle.std.proofs.Common.{ap, ◌∙◌, ℕ, ◌∷◌, take, drop, length, ◌-◌}
use Rattle.document_script.proofs.TokenLaws.{end_cut, first_and_rest, no_more, semicolon_cut}
use Rattle.document_script.proofs.cutter.Cutter.more.Goals as goal

pub returns-in-empty : goal.returns-in-empty
returns-in-empty c = end_cut c.args.self.now.rest.now c.skip.new.self.rest.now c.skip.ensures c.in-empty.len_below

pub returns-then-first-eq59 : goal.returns-then-first-eq59
returns-then-first-eq59 c = semicolon_cut c.args.self.now.rest.now c.skip.new.self.rest.now _ c.skip.ensures (first_and_rest c.skip.new.self.rest.now c.in-len1-up.len_at_least ∙ ap (λ (b : ℕ). b ∷ take (length c.skip.new.self.rest.now - 1) (drop 1 c.skip.new.self.rest.now)) c.if-first-eq59.true)

pub returns-else-first-eq59 : goal.returns-else-first-eq59
returns-else-first-eq59 c = no_more c.args.self.now.rest.now c.skip.new.self.rest.now c.skip.ensures c.in-len1-up.len_at_least c.if-first-eq59.false
