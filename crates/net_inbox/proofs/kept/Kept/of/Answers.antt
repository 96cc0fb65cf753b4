use Rattle.std.proofs.Common.{◌≡◌, ◌++◌, ◌∙◌, codes, ap, length, arith}
use Rattle.std.specs.Fmt.{decimal}
use Rattle.net_inbox.proofs.Lines.{kept-by}
use Rattle.net_inbox.proofs.kept.Kept.of.Goals as goal

pub invariant_of-result : goal.invariant_of-result
invariant_of-result c =
    let named : c.push_name.new.line.items ≡ codes "deliver " ++ c.args.name.now = c.in_ok-push_name.ensures ∙ ap (λ z. z ++ codes "deliver " ++ c.args.name.now) c.in_ok-line.ensures.items in
    let numbered : c.push_ordinal.new.line.items ≡ codes "deliver " ++ c.args.name.now ++ codes " " ++ decimal c.args.id.ordinal ++ codes " " =
    c.in_ok-push_ordinal.ensures ∙ ap (λ z. z ++ codes " " ++ decimal c.args.id.ordinal ++ codes " ") named in
    kept-by c.args.id c.args.name.now c.args.bytes.now c.push_text.new.line.items c.len-name_end.result c.len-text_start.result
    (c.in_ok-push_text.ensures ∙ ap (λ z. z ++ c.args.bytes.now ++ codes "\n") numbered) (omega (arith, c.len-name_end.ensures, c.push_name.new.line.ok.0, ap length named))
    (omega (arith, c.len-text_start.ensures, c.push_ordinal.new.line.ok.0, ap length numbered))
