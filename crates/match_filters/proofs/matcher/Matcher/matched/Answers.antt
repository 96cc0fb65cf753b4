use Rattle.std.proofs.Common.{◌≡◌, ◌↔◌, ◌∙◌, ◌+◌, ◌*◌, ◌%◌, ◌<◌, ap, ap₂, sym, subst, ℕ, List, length, arith}
use Rattle.std.proofs.lemmas.List.{with_items_is}
use Rattle.base_bits.specs.Words.{bit, members_of}
use Rattle.base_bits.specs.Rows.{IsKept}
use Rattle.match_index.specs.Pairs.{tally}
use Rattle.match_cells.specs.Counts.{goal_at, rows_with}
use Rattle.match_filters.specs.Hits.{hits_of}
use Rattle.match_filters.specs.Kinds.{all_uses}
use Rattle.match_filters.specs.Matching.{matched}
use Rattle.match_filters.specs.Rows.{is_met}
use Rattle.match_filters.proofs.Ending.{hits-known, kept, members}
use Rattle.match_filters.proofs.matcher.Matcher.matched.Goals as goal

pub count_found-requires : goal.count_found-requires
count_found-requires c =
    let n = c.args.notice.now in
    let rising = c.attributes-attributes.ensures.whole.rising in
    let filters = c.self.inside.filters.value in
    let few = c.self.invariant.0 in
    let index = c.self.inside.index in
    let goals = c.self.inside.goals.items in
    let is = c.self.invariant.2 in
    let found = c.find.new.found.items in
    let hits = c.in_ok-find.ensures in
    record { known = λ k l. ap (hits_of k) c.deref.ensures.value ∙ hits-known n rising filters few index goals is found hits c.len-span.result (omega (arith, c.len-span.ensures)) k l }

pub put_words-requires : goal.put_words-requires
put_words-requires c =
    let n = c.args.notice.now in
    let rising = c.attributes-attributes.ensures.whole.rising in
    let filters = c.self.inside.filters.value in
    let few = c.self.invariant.0 in
    let index = c.self.inside.index in
    let goals = c.self.inside.goals.items in
    let is = c.self.invariant.2 in
    let found = c.find.new.found.items in
    let hits = c.in_ok-find.ensures in
    let words = c.counted.new.into in
    let long : length words ≡ length goals = omega (arith, c.counted.ensures.length, c.deref_mut.ensures.len, c.in_ok-resize.ensures.len, c.len-span.ensures) in
    let same : length words ≡ length c.deref_mut.result.now = c.counted.ensures.length in
    let counted : (k : ℕ) → goal_at c.count_found.new.counts.items k ≡ hits_of k found % 32 = λ k. c.in_ok-count_found.ensures.counts k ∙ ap (λ (xs : List ℕ). hits_of k xs % 32) c.deref.ensures.value in
    let gathered : (k : ℕ) → k < 64 * length goals → rows_with c.gather.new.rows k ≡ tally (λ a. is_met a (all_uses index) k) n = λ k l. c.in_ok-gather.ensures.counts k (omega (arith, l, c.len-span.ensures)) in
    let raw = rw (c.deref-2.ensures.value, c.as_slice.ensures, c.deref-3.ensures.value) at c.counted.ensures.bits in
    let bits : (k : ℕ) → k < 64 * length words → (bit words k ≡ 1) ↔ ((goal_at c.count_found.new.counts.items k + rows_with c.gather.new.rows k) % 32 ≡ goal_at goals k) = λ k l. raw k (omega (arith, l, same)) in
    let shown : c.deref-4.result.now ≡ words = c.deref-4.ensures.value ∙ with_items_is c.resize.new.self words (omega (arith, c.counted.ensures.length, c.deref_mut.ensures.len)) in
    let wide : length filters ≡ c.args.row.now.width = ap length c.self.view_is ∙ sym c.requires in
    subst (λ (w : ℕ). IsKept c.deref-4.result.now w) wide (subst (λ (xs : List ℕ). IsKept xs (length filters)) (sym shown) (kept n rising filters few index goals is found hits c.count_found.new.counts.items c.gather.new.rows words long counted gathered bits))

pub returns-clause-members : goal.returns-clause-members
returns-clause-members c =
    let n = c.args.notice.now in
    let rising = c.attributes-attributes.ensures.whole.rising in
    let filters = c.self.inside.filters.value in
    let few = c.self.invariant.0 in
    let index = c.self.inside.index in
    let goals = c.self.inside.goals.items in
    let is = c.self.invariant.2 in
    let found = c.find.new.found.items in
    let hits = c.in_ok-find.ensures in
    let words = c.counted.new.into in
    let long : length words ≡ length goals = omega (arith, c.counted.ensures.length, c.deref_mut.ensures.len, c.in_ok-resize.ensures.len, c.len-span.ensures) in
    let same : length words ≡ length c.deref_mut.result.now = c.counted.ensures.length in
    let counted : (k : ℕ) → goal_at c.count_found.new.counts.items k ≡ hits_of k found % 32 = λ k. c.in_ok-count_found.ensures.counts k ∙ ap (λ (xs : List ℕ). hits_of k xs % 32) c.deref.ensures.value in
    let gathered : (k : ℕ) → k < 64 * length goals → rows_with c.gather.new.rows k ≡ tally (λ a. is_met a (all_uses index) k) n = λ k l. c.in_ok-gather.ensures.counts k (omega (arith, l, c.len-span.ensures)) in
    let raw = rw (c.deref-2.ensures.value, c.as_slice.ensures, c.deref-3.ensures.value) at c.counted.ensures.bits in
    let bits : (k : ℕ) → k < 64 * length words → (bit words k ≡ 1) ↔ ((goal_at c.count_found.new.counts.items k + rows_with c.gather.new.rows k) % 32 ≡ goal_at goals k) = λ k l. raw k (omega (arith, l, same)) in
    let shown : c.deref-4.result.now ≡ words = c.deref-4.ensures.value ∙ with_items_is c.resize.new.self words (omega (arith, c.counted.ensures.length, c.deref_mut.ensures.len)) in
    let wide : length filters ≡ c.args.row.now.width = ap length c.self.view_is ∙ sym c.requires in
    c.put_words.ensures.members ∙ (ap₂ members_of shown (sym wide) ∙ (members n rising filters few index goals is found hits c.count_found.new.counts.items c.gather.new.rows words long counted gathered bits ∙ ap (matched n) c.self.view_is))
