use Rattle.std.proofs.Common.{◌≡◌, ◌∙◌, ◌++◌, ap, sym, refl, ℕ, List}
use Rattle.std.proofs.lemmas.Result.{on_ok_weaker}
use Rattle.filter_constraints.specs.Bytes.{has_prefix, has_suffix, has_part}
use Rattle.filter_constraints.specs.declared.op.Op.TheVariants as ops
use Rattle.filter_values.specs.declared.value.Value.TheVariants as values
use Rattle.match_index.specs.Pairs.{ids_met}
use Rattle.match_index.specs.Lines.{told}
use Rattle.match_index.proofs.Lines.{met-told, three-parts}
use Rattle.match_index.proofs.Rows.{met-append}
use Rattle.match_index.specs.Keys.{test_at}
use Rattle.match_index.proofs.Appended.{appended}
use Rattle.match_texts.proofs.patterns.Patterns.meet.Goals as goal

pub returns : goal.returns
returns c =
    let x = c.args.text.now in
    let v = values.Str x in
    let a = c.self.inside.prefixes in
    let b = c.self.inside.suffixes in
    let d = c.self.inside.parts in
    let ta = told (test_at ops.Prefix) a in
    let tb = told (test_at ops.Suffix) b in
    let td = told (test_at ops.Contains) d in
    let ea = met-told v (test_at ops.Prefix) (λ (k : List ℕ). has_prefix x k) a (λ k. refl) in
    let eb = met-told v (test_at ops.Suffix) (λ (k : List ℕ). has_suffix x k) b (λ k. refl) in
    let ed = met-told v (test_at ops.Contains) (λ (k : List ℕ). has_part x k) d (λ k. refl) in
    let old = c.args.found.now.items in
    let one = c.meet_prefixes.new.found.items in
    let two = c.meet_suffixes.new.found.items in
    let new = c.meet_parts.new.found.items in
    let f : one ≡ old ++ ids_met v ta = c.in_ok-meet_prefixes.ensures ∙ ap (λ (z : List ℕ). old ++ z) ea in
    let g : two ≡ one ++ ids_met v tb = c.in_ok-meet_suffixes.ensures ∙ ap (λ (z : List ℕ). one ++ z) eb in
    let all : ids_met v ta ++ (ids_met v tb ++ ids_met v td) ≡ ids_met v c.args.self.now = ap (λ (z : List ℕ). ids_met v ta ++ z) (sym (met-append v tb td)) ∙ (sym (met-append v ta (tb ++ td)) ∙ ap (ids_met v) c.self.view_is) in
    on_ok_weaker c.meet_parts.result (λ h. appended old new (ids_met v c.args.self.now) (three-parts old one two new (ids_met v ta) (ids_met v tb) (ids_met v td) f g (h ∙ ap (λ (z : List ℕ). two ++ z) ed) ∙ ap (λ (z : List ℕ). old ++ z) all)) c.meet_parts.ensures
