-- A beginning of a run, and the entries of its last part.
use Rattle.std.proofs.Common.{◌≡◌, ℕ, zero, suc, ◌+◌, ◌≤◌, ◌<◌, List, [], ◌∷◌, ◌++◌, ◌⊎◌, inl, inr, length, take, drop, slice_get, Some, refl, sym, ap, subst, ◌∙◌, arith, length-append}
use Rattle.std.proofs.lemmas.List.{take-append-drop, length-take-le, length-map, map-append}
use Rattle.law_machine.proofs.Numbers.{slice_get-left}
use Rattle.law_routing.specs.Theory.{Theory, TheoryLaws}
use Rattle.law_routing.specs.Net.{Net}
use Rattle.law_routing.specs.Routing.{NetEntry}
use Rattle.law_routing.specs.LegalRun.{LegalRun, states as states_of}
use Rattle.law_routing.proofs.Started.{ends}
use Rattle.law_phases.specs.Trees.{JournalEntry, on, entry_on, entries_on, trees_by, net_at}
use Rattle.law_phases.specs.Moments.{Moment, opening_moment, found_after}
use Rattle.law_phases.specs.Runs.{PhasedRun}
use Rattle.law_phases.specs.AtMoments.{states, phases, phase_seen, net_seen, states_on}
use Rattle.law_phases.proofs.Nets.{net-one}
use Rattle.law_phases.proofs.Moments.{found-left}
use Rattle.law_phases.proofs.Pieces.{Piece}
use Rattle.law_phases.proofs.Whole.{prefix, piece, last-run}
use Rattle.law_phases.proofs.Shift.{Like}
use Rattle.std.proofs.lemmas.Bool.{cases_lt}

slice-right : {X : Type 0} (xs ys : List X) (i : ℕ) → slice_get (xs ++ ys) (length xs + i) ≡ slice_get ys i
slice-right [] ys i = ap (slice_get ys) (none i)
  where
    none : (a : ℕ) → 0 + a ≡ a
    none a = omega arith
slice-right (x ∷ xs) ys i = ap (slice_get (x ∷ (xs ++ ys))) (more (length xs) i) ∙ slice-right xs ys i
  where
    more : (a b : ℕ) → suc a + b ≡ suc (a + b)
    more a b = omega arith

pub unmapped : (th : Theory) (z : Net th) (es : List JournalEntry) (m : ℕ) (x : NetEntry th z) → slice_get (entries_on th z es) m ≡ Some x → (e : JournalEntry) × (slice_get es m ≡ Some e)
unmapped th z [] m x q = absurd cc
unmapped th z (e ∷ es) zero x q = (e, refl)
unmapped th z (e ∷ es) (suc m) x q = unmapped th z es m x q

-- the first n entries of a run
module _ (th : Theory) (laws : TheoryLaws th) (run : PhasedRun th) (n : ℕ) (short : n ≤ length run.journal) where
  abbrev pub part : Piece th laws run.net run.laws (take n run.journal) (states th run n) (phases th run n)
  part = piece th laws (prefix th laws run n)

  -- their last part, as a run over one tree
  abbrev pub part-run : LegalRun th
  part-run = last-run th laws (prefix th laws run n)

  -- it begins after so many entries
  abbrev pub offset : ℕ
  offset = length part.before

  long : length (take n run.journal) ≡ n
  long = length-take-le n run.journal short

  pub counts : offset + length part.part ≡ n
  counts = sym (length-append part.before part.part) ∙ (ap length (sym part.whole) ∙ (length-map (take n run.journal) (entry_on th (net_at th run.net part.first)) ∙ long))

  pub filled : 0 < n → length part.part ≡ 0 → ⊥
  filled l e = absurd (omega (arith, l, long, part.filled e))

  found-same : (x : ℕ) → x < n → found_after th run.net (opening_moment th run.net) run.journal x ≡ found_after th run.net (opening_moment th run.net) (take n run.journal) x
  found-same x l = ap (λ z. found_after th run.net (opening_moment th run.net) z x) (sym (take-append-drop n run.journal)) ∙ found-left th run.net (opening_moment th run.net) (take n run.journal) (drop n run.journal) x (omega (arith, l, long))

  pub like : (j : ℕ) → j < length part.part → Like th (net_at th run.net part.first) (states_on th run (net_at th run.net part.first) (offset + j)) (states_of th part-run j)
  like j l =
      let a = part.agree j l in
      let f = found-same (offset + j) (omega (arith, l, counts)) in
      record { state = ap (λ (z : Moment th run.net). z.state.state) f ∙ a.state; put = ap (λ (z : Moment th run.net). z.state.put) f ∙ a.put; taken = ap (λ (z : Moment th run.net). z.state.taken) f ∙ a.taken }

  pub one-tree : (j : ℕ) → j < length part.part → trees_by run.net.later part.first ≡ trees_by run.net.later (phase_seen th run (offset + j))
  one-tree j l = part.trees j l ∙ ap (λ (z : Moment th run.net). trees_by run.net.later z.phase) (sym (found-same (offset + j) (omega (arith, l, counts))))

  pub net-there : (j : ℕ) → j < length part.part → net_at th run.net part.first ≡ net_seen th run (offset + j)
  net-there j l = net-one th run.net part.first (phase_seen th run (offset + j)) (one-tree j l)

  pub entry-there : (j : ℕ) → j < length part.part → slice_get part.part j ≡ slice_get (entries_on th (net_at th run.net part.first) run.journal) (offset + j)
  entry-there j l =
      sym (slice-right part.before part.part j) ∙ (ap (λ z. slice_get z (offset + j)) (sym part.whole)
      ∙ (sym (slice_get-left (entries_on th (net_at th run.net part.first) (take n run.journal)) (entries_on th (net_at th run.net part.first) (drop n run.journal)) (offset + j) (omega (arith, l, counts, long, length-map (take n run.journal) (entry_on th (net_at th run.net part.first)))))
      ∙ ap (λ z. slice_get z (offset + j)) (sym (map-append (entry_on th (net_at th run.net part.first)) (take n run.journal) (drop n run.journal)) ∙ ap (entries_on th (net_at th run.net part.first)) (take-append-drop n run.journal))))

  pub after-all : states_of th part-run (length part.part) ≡ on th (net_at th run.net part.first) (states th run n)
  after-all = ends th laws part-run

  -- a moment of the tree in force lies in the part
  pub since : (m : ℕ) → m < n → trees_by run.net.later (phase_seen th run m) ≡ trees_by run.net.later (phases th run n) → offset ≤ m
  since m l e = go (cases_lt m offset)
    where
      go : (m < offset) ⊎ (offset ≤ m) → offset ≤ m
      go (inr g) = g
      go (inl g) = absurd (omega (arith, part.apart m g, part.one, e, ap (λ (z : Moment th run.net). trees_by run.net.later z.phase) (found-same m l)))

  -- the entries before the part are on earlier trees
  pub before-part : (x : ℕ) → x < offset → trees_by run.net.later (phase_seen th run x) < trees_by run.net.later part.first
  before-part x l = subst (λ (z : Moment th run.net). trees_by run.net.later z.phase < trees_by run.net.later part.first) (sym (found-same x (omega (arith, l, counts)))) (part.apart x l)
