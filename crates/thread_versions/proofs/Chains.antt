-- What is installed stays the fold of a beginning of the history.
use Rattle.std.proofs.Common.{fold, ◌≡◌, ◌≢◌, ℕ, ◌+◌, List, [], ◌∷◌, ◌++◌, true, set, refl, sym, ap, ◌∙◌, subst, ⊎_elim}
use Rattle.std.proofs.lemmas.List.Sums.{fold-append}
use mathlib.Core.Option.{some}
use lib.ListN.{get_elem?}
use Rattle.logbook.specs.Pages.{Book}
use Rattle.crossbeam_utils.specs.Register.{Admits, TurnsAt, Turns, Forks, Merges}
use Rattle.atomic_table.proofs.Lists.{at_set, at_snoc, set_again}
use Rattle.match_routes.specs.Installed.{Pair, Installed, all_changed}
use Rattle.thread_versions.specs.declared.rule.View.{View}
use Rattle.thread_versions.specs.declared.version.Version.{Version}
use Rattle.thread_versions.specs.declared.version.Step.{Step}
use Rattle.thread_versions.specs.Pairs.{pairs_after, all_known, with_pairs, made}
use Rattle.thread_versions.specs.Chain.{nobody, named_by, IsNamedBy, IsFolded, Knows, KeepsViews, Sighted, ShownView, MayShow, IsShownAfter, changes_of, last_seen}
use Rattle.thread_versions.specs.History.{HistoryParts}
use Rattle.thread_versions.proofs.Pairs.{more_after}
use Rattle.thread_versions.proofs.Applied.{all-made}
use Rattle.base.proofs.Bools.{absurd-false}

pub sees : (seat : ℕ) (v : View) → Turns KeepsViews seat v (λ x. x) (λ v x y w. Sighted v x w)
sees seat v x views k at = (v, (k.0, (λ j u e. k.1 j u (subst (λ l. get_elem? l j ≡ some u) (set_again views seat v at) e))), (refl, k.0, k.1 seat v at))

-- what a place names of one version it names of the next
moved : (b c : Book) (w z : ℕ) (u : View) → c ≡ b → z ≡ w → IsNamedBy b w u → IsNamedBy c z u
moved b c w z u e f n = record { named = n.named; book = n.book ∙ sym e; width = n.width ∙ sym f }

shows : (seat : ℕ) (v : View) (x y : Version) → IsFolded y → y.front.seen.book ≡ x.front.seen.book → y.forwarding.width ≡ x.forwarding.width → TurnsAt KeepsViews seat v x y (λ v x y w. ShownView v y w)
shows seat v x y folded same wide views k at = let w = named_by (v.shows + 1) y.front.seen.book y.forwarding.width in (
  w,
  (
    folded,
    (λ j u e. ⊎_elim (λ (t : (j ≡ seat) × (w ≡ u)). subst (λ z. Knows y z) t.1 (λ _. record { named = refl; book = refl; width = refl }))
        (λ (t : (j ≢ seat) × (get_elem? views j ≡ some u)). λ p. moved x.front.seen.book y.front.seen.book x.forwarding.width y.forwarding.width u same wide (k.1 j u t.1 p)) (at_set views seat j w u e)),
  ),
  (folded, refl),
)

pub admits : Admits KeepsViews nobody
admits x views k = (k.0, (λ j u e. ⊎_elim (k.1 j u) (λ (t : nobody ≡ u). subst (λ z. Knows x z) t (λ p. absurd-false p)) (at_snoc views nobody u j e)))

pub starts : (x : Version) → IsFolded x → KeepsViews x (nobody ∷ [])
starts x folded = admits x [] (folded, λ j u e. absurd (cc e))

abbrev pub Told : Type 0
Told = Installed × HistoryParts

abbrev pub told : Version → Told
told x = (x.forwarding, x.front.seen)

abbrev pub applied : Told → Step → Told
applied s op = (fold made s.0 op.changes.items, op.front.seen)

pub fold_is : (p : Installed) (s : HistoryParts) (ops : List Step) → fold applied (p, s) ops ≡ (fold made p (changes_of ops), last_seen s ops)
fold_is p s [] = refl
fold_is p s (x ∷ ops) = fold_is (fold made p x.changes.items) x.front.seen ops
    ∙ ap (λ (l : Installed). (l, last_seen x.front.seen ops)) (sym (fold-append made p x.changes.items (changes_of ops)))

-- what steps make of a version, of whose changes each is known
pub after : (now next : Version) (ops : List Step) → all_known now.forwarding (changes_of ops) ≡ true → told next ≡ fold applied (told now) ops
    → told next ≡ (with_pairs now.forwarding (all_changed (changes_of ops) now.forwarding.pairs), last_seen now.front.seen ops)
after now next ops known e = e ∙ fold_is now.forwarding now.front.seen ops ∙ ap (λ (p : Installed). (p, last_seen now.front.seen ops)) (all-made now.forwarding (changes_of ops) known)

pub shown_after : (now next : Version) (ops : List Step) → IsFolded now → MayShow now ops → told next ≡ fold applied (told now) ops → IsShownAfter now ops next
shown_after now next ops folded may e =
    let f = after now next ops may.known e in
    let log : next.front.seen.log ≡ now.front.seen.log ++ changes_of ops = ap (λ (t : Told). t.1.log) f ∙ may.log in
    record {
      folded = ap (λ (t : Told). t.0.pairs) f ∙ ap (λ (s : List Pair). all_changed (changes_of ops) s) folded ∙ sym (more_after now.front.seen.log (changes_of ops)) ∙ ap pairs_after (sym log);
      seen = ap (λ (t : Told). t.1) f;
      server = record { width = ap (λ (t : Told). t.0.width) f; interfaces = ap (λ (t : Told). t.0.interfaces) f };
    }

pub shows_fold : (seat : ℕ) (v : View) (now next : Version) (ops : List Step) → IsFolded now → MayShow now ops → told next ≡ fold applied (told now) ops
    → TurnsAt KeepsViews seat v now next (λ v x y w. ShownView v y w)
shows_fold seat v now next ops folded may e =
    let f = shown_after now next ops folded may e in
    shows seat v now next f.folded (ap (λ (s : HistoryParts). s.book) f.seen ∙ may.book) f.server.width

pub forks : (seat : ℕ) (v : View) → Forks KeepsViews seat v v v
forks seat v x views k at = (k.0, (λ j u e. ⊎_elim (λ here. k.1 j u (subst (λ l. get_elem? l j ≡ some u) (set_again views seat v at) here)) (λ (t : v ≡ u). subst (λ z. Knows x z) t (k.1 seat v at)) (at_snoc (set views seat v) v u j e)))

pub merges : (seat : ℕ) (v : View) (other : ℕ) (w : View) → Merges KeepsViews seat v other w w nobody
merges seat v other w x views k at apart there =
    let his : Knows x w = ⊎_elim (λ (t : (other ≡ seat) × (w ≡ w)). absurd (apart t.0)) (λ (t : (other ≢ seat) × (get_elem? views other ≡ some w)). k.1 other w t.1) (at_set views seat other w w there) in
    let one : (j : ℕ) (u : View) → get_elem? (set views seat w) j ≡ some u → Knows x u
    = λ j u e. ⊎_elim (λ (t : (j ≡ seat) × (w ≡ u)). subst (λ z. Knows x z) t.1 his) (λ (t : (j ≢ seat) × (get_elem? views j ≡ some u)). k.1 j u t.1) (at_set views seat j w u e) in
    (k.0, (λ j u e. ⊎_elim (λ (t : (j ≡ other) × (nobody ≡ u)). subst (λ z. Knows x z) t.1 (λ p. absurd-false p)) (λ (t : (j ≢ other) × (get_elem? (set views seat w) j ≡ some u)). one j u t.1) (at_set (set views seat w) other j nobody u e)))
