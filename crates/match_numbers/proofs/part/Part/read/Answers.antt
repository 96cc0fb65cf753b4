use Rattle.std.proofs.Common.{◌≡◌, ◌∙◌, refl, sym, arith}
use Rattle.base_bits.specs.Words.{bit}
use Rattle.match_numbers.proofs.Resized.{bit-resized}
use Rattle.match_numbers.proofs.part.Part.read.Goals as goal

pub returns-clause-bits : goal.returns-clause-bits
returns-clause-bits c of k l =
    let by = c.in_ok-resize.ensures.by_index in
    let old = c.read_all.new.row.items in
    let same : bit c.resize.new.self.items k ≡ bit old k = bit-resized old old c.resize.new.self.items c.read_all.new.row.len c.args.span k refl (omega arith) l by.0 (λ j d m n. by.1 j d refl m n) in
    let b = c.in_ok-read_all.ensures of k in
    (λ t. b.0 (sym same ∙ t), λ t. same ∙ b.1 t)
