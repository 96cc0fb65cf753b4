-- The walk phase by phase, from a legal run on, however a journal is read.
use Rattle.std.proofs.Common.{◌≡◌, ℕ, suc, ◌+◌, ◌-◌, ◌<◌, ◌≤◌, List, [], ◌++◌, length, Result, Ok, Err, OnOk, OnErr, sym, ap, subst, ◌∙◌, arith, add-one}
use Rattle.std.proofs.lemmas.List.{append-nil, append_assoc, map-append}
use Rattle.base.proofs.Numbers.{Same, Is, Not, compare}
use Rattle.law_phases.specs.Runs.{Turn}
use Rattle.net_model.specs.Parts.{NetParts, EntryParts}
use Rattle.net_model.specs.Nets.{phases_of}
use Rattle.net_turns.specs.Network.{NetworkParts, network_parts, IsLater}
use Rattle.net_turns.specs.Trying.{phase_turns}
use Rattle.net_turns.specs.Reading.{Reading, journal_read, moment_read, IsDrainedBy, entries_tried, CanTry, IsTried, Tries, walk_left, phase_read, CanWalk, IsWalkedTo, AreEmpty}
use Rattle.net_turns.proofs.Tries.{moment-made, nothing-made}

module _ (r : Reading) where
  -- at first the whole walk is left, from the phase in hand on
  pub walk-starts : (network : NetworkParts) (phase : ℕ) → phase ≡ phase_read r network → CanWalk r (phase_read r network) network → IsWalkedTo r phase network network
  walk-starts network phase e can = subst (λ n. IsWalkedTo r n network network) (sym e) (record {
    made = [];
    later = ap (network_parts network.net) (sym (append-nil network.journal));
    whole = ap (λ z. walk_left r (network_parts network.net z) (phase_read r network)) (sym (append-nil network.journal));
    can = subst (λ z. CanWalk r (phase_read r network) (network_parts network.net z)) (sym (append-nil network.journal)) can;
  })

  -- what is left of the walk at a phase: its entries, and then those of the later ones
  pub walk-split : (network : NetworkParts) (phase : ℕ) → phase < phases_of network.net
      → walk_left r network phase ≡ entries_tried r network phase (phase_turns network.net (r.tree_phase phase))
      ++ r.walk_phases network.net (phases_of network.net - suc phase) (suc phase) (r.turned network.net phase (moment_read r network.net network.journal) (phase_turns network.net (r.tree_phase phase)))
  walk-split network phase less =
      let one : phases_of network.net - phase ≡ suc (phases_of network.net - suc phase) = omega (arith, less) in
      ap (λ n. r.walk_phases network.net n phase (moment_read r network.net network.journal)) one
      ∙ r.more_phases network.net (phases_of network.net - suc phase) phase (moment_read r network.net network.journal)

  pub here-can : (network : NetworkParts) (phase : ℕ) → phase < phases_of network.net → CanWalk r phase network → CanTry r phase (phase_turns network.net (r.tree_phase phase)) network
  here-can network phase less can = record {
    end = r.turned network.net phase now turns;
    run = (r.run_first network.net phase now can.end turns more (subst (λ z. r.IsRunTo network.net now z can.end) (walk-split network phase less) can.run)).0;
  }
    where
      now : r.Moment network.net
      now = moment_read r network.net network.journal

      turns : List Turn
      turns = phase_turns network.net (r.tree_phase phase)

      more : List (r.Entry network.net)
      more = r.walk_phases network.net (phases_of network.net - suc phase) (suc phase) (r.turned network.net phase (moment_read r network.net network.journal) (phase_turns network.net (r.tree_phase phase)))

  -- the phase at hand can be tried
  pub walk-can : (phase : ℕ) (old new : NetworkParts) → IsWalkedTo r phase old new → phase < phases_of new.net → CanTry r phase (phase_turns new.net (r.tree_phase phase)) new
  walk-can phase old new so less =
      subst (λ z. CanTry r phase (phase_turns z.net (r.tree_phase phase)) z) (sym so.later)
      (here-can (network_parts old.net (old.journal ++ so.made)) phase (subst (λ (z : NetworkParts). phase < phases_of z.net) so.later less) so.can)

-- a phase after it was tried
module _ (r : Reading) (net : NetParts) (journal made : List EntryParts) (phase : ℕ) (less : phase < phases_of net)
    (tried : journal_read r net made ≡ entries_tried r (network_parts net journal) phase (phase_turns net (r.tree_phase phase))) where
  after-is : moment_read r net (journal ++ made) ≡ r.turned net phase (moment_read r net journal) (phase_turns net (r.tree_phase phase))
  after-is = moment-made r net journal made phase (phase_turns net (r.tree_phase phase)) tried

  left-after : walk_left r (network_parts net journal) phase ≡ journal_read r net made ++ walk_left r (network_parts net (journal ++ made)) (suc phase)
  left-after =
      walk-split r (network_parts net journal) phase less
      ∙ (λ i. sym tried i ++ r.walk_phases net (phases_of net - suc phase) (suc phase) (sym after-is i))

  can-after : CanWalk r phase (network_parts net journal) → CanWalk r (suc phase) (network_parts net (journal ++ made))
  can-after can = record {
    end = can.end;
    run = subst (λ z. r.IsRunTo net z (r.walk_phases net (phases_of net - suc phase) (suc phase) z) can.end) (sym after-is)
        (r.run_first net phase (moment_read r net journal) can.end (phase_turns net (r.tree_phase phase))
        (r.walk_phases net (phases_of net - suc phase) (suc phase) (r.turned net phase (moment_read r net journal) (phase_turns net (r.tree_phase phase))))
        (subst (λ z. r.IsRunTo net (moment_read r net journal) z can.end) (walk-split r (network_parts net journal) phase less) can.run)).1;
    drained = can.drained;
  }

module _ (r : Reading) where
  pub walk-on : (phase : ℕ) (old middle new : NetworkParts) → IsWalkedTo r phase old middle → phase < phases_of middle.net → Tries r phase (phase_turns middle.net (r.tree_phase phase)) middle new
      → IsWalkedTo r (phase + 1) old new
  walk-on phase old middle new so less tries = subst (λ n. IsWalkedTo r n old new) (sym (add-one phase)) (record {
    made = so.made ++ step.made;
    later = step.later ∙ ap (network_parts old.net) (append_assoc old.journal so.made step.made);
    whole = so.whole
        ∙ (ap (λ z. journal_read r old.net so.made ++ z) (left-after r old.net (old.journal ++ so.made) step.made phase fewer step.entries)
        ∙ (sym (append_assoc (journal_read r old.net so.made) (journal_read r old.net step.made) (walk_left r (network_parts old.net ((old.journal ++ so.made) ++ step.made)) (suc phase)))
        ∙ (λ i. sym (map-append (r.entry_in old.net) so.made step.made) i ++ walk_left r (network_parts old.net (append_assoc old.journal so.made step.made i)) (suc phase))));
    can = subst (λ z. CanWalk r (suc phase) (network_parts old.net z)) (append_assoc old.journal so.made step.made) (can-after r old.net (old.journal ++ so.made) step.made phase fewer step.entries so.can);
  })
    where
      here : NetworkParts
      here = network_parts old.net (old.journal ++ so.made)

      fewer : phase < phases_of old.net
      fewer = subst (λ (z : NetworkParts). phase < phases_of z.net) so.later less

      step : IsTried r phase (phase_turns old.net (r.tree_phase phase)) (network_parts old.net (old.journal ++ so.made)) new
      step = subst (λ z. Tries r phase (phase_turns z.net (r.tree_phase phase)) z new) so.later tries (here-can r here phase fewer so.can)

  -- behind the last phase all is drained
  nothing-left : (net : NetParts) (journal : List EntryParts) (phase : ℕ) → phases_of net ≤ phase → walk_left r (network_parts net journal) phase ≡ []
  nothing-left net journal phase past =
      let none : phases_of net - phase ≡ 0 = omega (arith, past) in
      ap (λ n. r.walk_phases net n phase (moment_read r net journal)) none ∙ r.no_phases net phase (moment_read r net journal)

  drained-past : (net : NetParts) (journal : List EntryParts) (phase : ℕ) → phases_of net ≤ phase → CanWalk r phase (network_parts net journal) → IsDrainedBy r net journal
  drained-past net journal phase past can =
      r.drained_at net (moment_read r net journal) can.end (subst (λ z. r.IsRunTo net (moment_read r net journal) z can.end) (nothing-left net journal phase past) can.run) can.drained

  pub walk-drained : (phase : ℕ) (old new : NetworkParts) → IsWalkedTo r phase old new → phases_of new.net ≤ phase → IsDrainedBy r new.net new.journal
  walk-drained phase old new so past =
      subst (λ (z : NetworkParts). IsDrainedBy r z.net z.journal) (sym so.later)
      (drained-past old.net (old.journal ++ so.made) phase (subst (λ (z : NetworkParts). phases_of z.net ≤ phase) so.later past) so.can)

  -- what was made is the walk then, and all is drained
  pub record IsWholeWalk (phase : ℕ) (old new : NetworkParts) (so : IsWalkedTo r phase old new) : Type 0 where
    pub walk : journal_read r old.net so.made ≡ walk_left r old (phase_read r old)
    pub drained : IsDrainedBy r old.net (old.journal ++ so.made)

  pub walk-ends : (phase : ℕ) (old new : NetworkParts) (so : IsWalkedTo r phase old new) → phases_of old.net ≤ phase → IsWholeWalk phase old new so
  walk-ends phase old new so past = record {
    walk = sym (so.whole ∙ (ap (λ z. journal_read r old.net so.made ++ z) (nothing-left old.net (old.journal ++ so.made) phase past) ∙ append-nil (journal_read r old.net so.made)));
    drained = drained-past old.net (old.journal ++ so.made) phase past so.can;
  }

  pub walked-later : (phase : ℕ) (old new : NetworkParts) → IsWalkedTo r phase old new → IsLater old new
  walked-later phase old new so = record { made = so.made; later = so.later }

  -- from one phase to another nothing is left
  pub empty-none : (old : NetworkParts) (phase : ℕ) → phase ≡ phase_read r old → AreEmpty r old phase
  empty-none old phase e earlier from to = absurd (omega (arith, e, from, to))

  -- a phase that makes nothing
  pub empty-more : (phase : ℕ) (old middle new : NetworkParts) → AreEmpty r old phase → middle ≡ old → IsTried r phase (phase_turns middle.net (r.tree_phase phase)) middle new → new ≡ middle
      → AreEmpty r old (phase + 1)
  empty-more phase old middle new empty same tried still earlier from to = go (compare earlier phase)
    where
      here : entries_tried r old phase (phase_turns old.net (r.tree_phase phase)) ≡ []
      here = subst (λ z. entries_tried r z phase (phase_turns z.net (r.tree_phase phase)) ≡ []) same (nothing-made r phase (phase_turns middle.net (r.tree_phase phase)) middle new tried still)

      go : Same earlier phase → entries_tried r old earlier (phase_turns old.net (r.tree_phase earlier)) ≡ []
      go (Is e v) = subst (λ z. entries_tried r old z (phase_turns old.net (r.tree_phase z)) ≡ []) (sym e) here
      go (Not n v) = empty earlier from (omega (arith, to, n))

  -- one that makes something
  pub phase-tried : (phase : ℕ) (old middle new : NetworkParts) → middle ≡ old → IsTried r phase (phase_turns middle.net (r.tree_phase phase)) middle new
      → IsTried r phase (phase_turns old.net (r.tree_phase phase)) old new
  phase-tried phase old middle new same tried = subst (λ z. IsTried r phase (phase_turns z.net (r.tree_phase phase)) z new) same tried

-- a journal that is longer has entries more
pub some-made : (old new : NetworkParts) (made : List EntryParts) → new ≡ network_parts old.net (old.journal ++ made) → length old.journal < length new.journal → made ≡ [] → ⊥
some-made old new made later more e =
    absurd (omega (arith, more, ap (λ (z : NetworkParts). length z.journal) (later ∙ (ap (λ z. network_parts old.net (old.journal ++ z)) e ∙ ap (network_parts old.net) (append-nil old.journal)))))

pub on-ok : {T E P Q : Type 0} (r : Result T E) → (P → Q) → OnOk r P → OnOk r Q
on-ok (Ok x) f p = f p
on-ok (Err e) f p = tt
