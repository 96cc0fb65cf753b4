use Rattle.std.proofs.Common.{◌++◌, [], ◌∷◌}
use Rattle.std.specs.Prelude.{codes}
use Rattle.base.proofs.Lists.{append-chain}
use Rattle.filter_text.specs.NoticeText.{notice_text}
use Rattle.output_explain.specs.Text.{denial_line}
use Rattle.output_explain.proofs.text.push_denial.Goals as goal

pub returns : goal.returns
unfolding denial_line
returns c =
    let text = notice_text ((c.args.name.now, c.args.value.now) ∷ []) in
    append-chain c.args.out.now.items (codes "does not allow ") (text ++ codes "\n") c.extend_from_slice.new.self.items c.extend_from_slice-2.new.self.items
    c.in_ok-extend_from_slice.ensures.items
    (append-chain c.extend_from_slice.new.self.items text (codes "\n") c.push_attribute.new.out.items c.extend_from_slice-2.new.self.items
    c.in_ok-push_attribute.ensures c.in_ok-extend_from_slice-2.ensures.items)
