use Rattle.std.proofs.Common.{sym, ap, ◌∙◌, rules}
use lib.Pointwise.{bytes_decides}
use Rattle.base_bits.specs.Words.{bit}
use Rattle.base_bits.proofs.Bits.{same-words}
use Rattle.base_bits.proofs.words.are_same.Goals as goal

pub returns : goal.returns
returns c =
    let d = bytes_decides c.args.a.now c.args.b.now in
    (λ t i. ap (λ words. bit words i) (d.0 (sym c.eq.ensures ∙ t)), λ same. c.eq.ensures ∙ d.1 (same-words c.args.a.now c.args.b.now c.requires (λ j. search rules) (λ j. search rules) same))
