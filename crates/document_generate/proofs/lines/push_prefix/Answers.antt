use Rattle.std.proofs.Common.{◌∙◌, ◌++◌, ◌∷◌, [], ap, sym, true, ◌≡◌, codes}
use Rattle.document_generate.specs.Lines.{prefix_text}
use Rattle.document_generate.proofs.lines.push_prefix.Goals as goal
use Rattle.base.proofs.Lists.{append-chain}

pub returns : goal.returns
unfolding prefix_text
returns c =
    let e : c.args.wanted ≡ true = c.if-not-wanted.false in
    append-chain c.args.out.now.items (codes "; t str prefix \"" ++ c.args.first ∷ []) (codes "\"") c.push_text-2.new.out.items c.push_text-3.new.out.items
    (append-chain c.args.out.now.items (codes "; t str prefix \"") (c.args.first ∷ []) c.push_text.new.out.items c.push_text-2.new.out.items
    c.in_ok-push_text.ensures c.in_ok-push_text-2.ensures)
    c.in_ok-push_text-3.ensures
    ∙ ap (λ w. c.args.out.now.items ++ prefix_text w c.args.first) (sym e)
