use Rattle.std.proofs.Common.{◌-◌, []}
use Rattle.document_script.specs.Form.{parts_in}
use Rattle.document_script.proofs.PartsLoop.{AreRead}
use Rattle.document_script.proofs.tokens.Tokens.parts.Given as goal

abbrev pub invariant-loop : goal.invariant-loop
invariant-loop g l = AreRead (g.P.CommandPart.front l.version) g.P.CommandPart.keeps g.P.CommandPart.inside g.P.CommandPart.is_beyond g.P.CommandPart.is_empty (l.most - l.counter) l.self (parts_in (g.P.CommandPart.front l.version) l.most [] l.fn.self) (l.parts.is_full, l.parts.kept.items) l.parts.has_beyond l.parts.has_empty
