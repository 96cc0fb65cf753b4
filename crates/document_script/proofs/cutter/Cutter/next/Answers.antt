use Rattle.document_script.specs.Seen.{seen}
use Rattle.document_script.proofs.TokenLaws.{at_end, first_and_rest, next_cut}
use Rattle.document_script.proofs.cutter.Cutter.next.Goals as goal

pub returns-in-empty : goal.returns-in-empty
returns-in-empty c = at_end c.args.self.now.rest.now c.skip.new.self.rest.now c.skip.ensures c.in-empty.len_below

pub returns-in_ok-token-in-len1-up : goal.returns-in_ok-token-in-len1-up
returns-in_ok-token-in-len1-up c = next_cut c.args.self.now.rest.now c.skip.new.self.rest.now _ _ c.cut.new.self.rest.now (seen c.in_ok-token-in-len1-up.token) c.in_ok-token-in-len1-up.ensures c.skip.ensures (first_and_rest c.skip.new.self.rest.now c.in-len1-up.len_at_least)
