-- A client's filters by their numbers are those of its script.
use Rattle.std.proofs.Common.{◌≡◌, ℕ, zero, suc, ◌+◌, ◌-◌, Bool, true, false, cond, not, ◌||◌, nat_lt, inl, inr, List, [], ◌∷◌, ◌++◌, filter, length, take, drop, slice_get, Some, refl, sym, ap, subst, ◌∙◌, arith}
use Rattle.std.proofs.lemmas.Option.{same_Some, slice_get_within}
use Rattle.base.specs.Sets.{Has, put_in}
use Rattle.base.proofs.Roots.{Has-filter, filter-Has}
use Rattle.base.proofs.Sets.{has-put_in, has-append-left, has-append-right, has-append}
use Rattle.base_bits.proofs.Passing.{nat_laws}
use Rattle.filter_constraints.specs.Constraint.{ConstraintParts}
use Rattle.filter_types.specs.Notice.{Attribute}
use Rattle.filter_types.specs.Cover.{filter_covers}
use Rattle.law_routing.proofs.Listing.{pass-by, by-pass}
use Rattle.net_model.specs.Real.{real}
use Rattle.base_order.specs.Order.{covers_at}
use Rattle.filter_text.specs.declared.command.Command.{Command}
use Rattle.filter_text.specs.Messages.{Lists}
use Rattle.net_model.specs.Parts.{ClientParts}
use Rattle.net_tables.specs.declared.numbered.NumberedCommand.{NumberedCommand}
use Rattle.net_tables.specs.declared.numbered.NumberedCommand.TheVariants as numbers
use Rattle.net_tables.specs.Known.{publishes_after}
use Rattle.net_tables.specs.Numbered.{Catalogued, RepresentsCommand, AreNumbered, AllNumbered}
use Rattle.output_flood.specs.Held.{Script, filter_step, filters_held, with_filter, subscribed, withdraws, withdrawn, below, before, within, every_filters, some_filters}
use Rattle.output_flood.specs.Numbers.{Steps, Shows, IsNumber, AreNumbers, uncovered, number_step, numbers_held, lasting_step, numbers_lasting, adding_step, numbers_added, every_number, ever_number}
use Rattle.output_flood.specs.Publications.{is_met}
use Rattle.output_flood.specs.Tables.{AreAllNumbers}

pub every_some : (phase : ℕ) (script : Script) (n : List Attribute) → is_met (every_filters phase script) n ≡ true → is_met (some_filters phase script) n ≡ true
unfolding every_filters some_filters
every_some phase script n h =
    let w = by-pass (λ f. real.matches n f) (every_filters phase script) h in
    let f = filter-Has (λ g. not (withdrawn g (within phase script))) w.0 (filters_held [] (before phase script)) w.1 in
    pass-by (λ g. real.matches n g) w.0 (some_filters phase script) (has-append-left w.0 (filters_held [] (before phase script)) (subscribed (within phase script)) f.0) w.2

-- the steps of a client
pub numbered_at : (known : Catalogued) (number : ℕ) (scripts : List Steps) (clients : List ClientParts) (place : ℕ) (client : ClientParts) → AllNumbered known number scripts clients
    → slice_get clients place ≡ Some client → (steps : Steps) × (slice_get scripts place ≡ Some steps) × AreNumbered known (number + place) 0 steps client.script
numbered_at known number scripts [] place client h e = absurd cc
numbered_at known number [] (c ∷ cs) place client h e = absurd h
numbered_at known number (s ∷ ss) (c ∷ cs) zero client h e =
    (s, refl, subst (λ k. AreNumbered known k 0 s client.script) (zeroth number) (subst (λ (z : ClientParts). AreNumbered known number 0 s z.script) (same_Some _ _ e) h.0))
  where
    zeroth : (k : ℕ) → k ≡ k + 0
    zeroth k = omega arith
numbered_at known number (s ∷ ss) (c ∷ cs) (suc place) client h e =
    let r = numbered_at known (suc number) ss cs place client h.1 e in
    (r.0, r.1, subst (λ k. AreNumbered known k 0 r.0 client.script) (next number place) r.2)
  where
    next : (k p : ℕ) → suc k + p ≡ k + suc p
    next k p = omega arith

pub scripts_long : (known : Catalogued) (number : ℕ) (scripts : List Steps) (clients : List ClientParts) → AllNumbered known number scripts clients → length scripts ≡ length clients
scripts_long known number [] [] h = refl
scripts_long known number [] (c ∷ cs) h = absurd h
scripts_long known number (s ∷ ss) [] h = absurd h
scripts_long known number (s ∷ ss) (c ∷ cs) h = ap suc (scripts_long known (suc number) ss cs h.1)

one_number : (known : Catalogued) (client count phase : ℕ) (n : NumberedCommand) (c : Command) → RepresentsCommand known client count phase n c → IsNumber (length known.filters) n
one_number known client count phase (numbers.Subscribe i) c m = slice_get_within known.filters i m.0 m.1
one_number known client count phase (numbers.Unsubscribe i) c m = slice_get_within known.filters i m.0 m.1
one_number known client count phase (numbers.Advertise i) c m = tt
one_number known client count phase (numbers.Unadvertise i) c m = tt
one_number known client count phase (numbers.Publish i) c m = tt

are_numbers : (known : Catalogued) (client count : ℕ) (steps : Steps) (script : Script) → AreNumbered known client count steps script → AreNumbers (length known.filters) steps
are_numbers known client count [] script h step m = absurd m
are_numbers known client count (s ∷ ss) [] h step m = absurd h
are_numbers known client count (s ∷ ss) (c ∷ cs) h step (inl e) =
    subst (λ (z : ℕ × NumberedCommand). IsNumber (length known.filters) z.1) (sym e) (one_number known client count c.0 s.1 c.1 h.1)
are_numbers known client count (s ∷ ss) (c ∷ cs) h step (inr m) = are_numbers known client (publishes_after count c.1) ss cs h.2 step m

pub all_numbers : (known : Catalogued) (number : ℕ) (scripts : List Steps) (clients : List ClientParts) → AllNumbered known number scripts clients → AreAllNumbers (length known.filters) scripts
all_numbers known number [] clients h steps m = absurd m
all_numbers known number (s ∷ ss) [] h steps m = absurd h
all_numbers known number (s ∷ ss) (c ∷ cs) h steps (inl e) = subst (AreNumbers (length known.filters)) (sym e) (are_numbers known number 0 s c.script h.0)
all_numbers known number (s ∷ ss) (c ∷ cs) h steps (inr m) = all_numbers known (suc number) ss cs h.1 steps m

-- the same phases, and the same slices
same_below : (known : Catalogued) (client count phase : ℕ) (steps : Steps) (script : Script) → AreNumbered known client count steps script → below phase steps ≡ below phase script
same_below known client count phase [] [] h = refl
same_below known client count phase [] (c ∷ cs) h = absurd h
same_below known client count phase (s ∷ ss) [] h = absurd h
same_below known client count phase (s ∷ ss) (c ∷ cs) h =
    rw (h.0) (ap (λ m. cond (nat_lt c.0 phase) (suc m) m) (same_below known client (publishes_after count c.1) phase ss cs h.2))

taken : (known : Catalogued) (client count k : ℕ) (steps : Steps) (script : Script) → AreNumbered known client count steps script → AreNumbered known client count (take k steps) (take k script)
taken known client count zero [] [] h = tt
taken known client count (suc k) [] [] h = tt
taken known client count k [] (c ∷ cs) h = absurd h
taken known client count k (s ∷ ss) [] h = absurd h
taken known client count zero (s ∷ ss) (c ∷ cs) h = tt
taken known client count (suc k) (s ∷ ss) (c ∷ cs) h = (h.0, h.1, taken known client (publishes_after count c.1) k ss cs h.2)

dropped : (known : Catalogued) (client count k : ℕ) (steps : Steps) (script : Script) → AreNumbered known client count steps script
    → (later : ℕ) × AreNumbered known client later (drop k steps) (drop k script)
dropped known client count zero [] [] h = (count, tt)
dropped known client count (suc k) [] [] h = (count, tt)
dropped known client count k [] (c ∷ cs) h = absurd h
dropped known client count k (s ∷ ss) [] h = absurd h
dropped known client count zero (s ∷ ss) (c ∷ cs) h = (count, h)
dropped known client count (suc k) (s ∷ ss) (c ∷ cs) h = dropped known client (publishes_after count c.1) k ss cs h.2

-- one command
shows_more : (filters : Lists) (xs : List ℕ) (list : Lists) (i : ℕ) (f : List ConstraintParts) → slice_get filters i ≡ Some f → Shows filters xs list → Shows filters (put_in nat_lt i xs) (list ++ f ∷ [])
shows_more filters xs list i f e s = record {
  sound = λ k h. elim ((has-put_in nat_laws i k xs).0 h) [
    | inl q ↦ (f, ap (slice_get filters) q ∙ e, has-append-right f list (f ∷ []) (inl refl))
    | inr m ↦ (let r = s.sound k m in (r.0, r.1, has-append-left r.0 list (f ∷ []) r.2))
  ];
  whole = λ g h. elim (has-append g list (f ∷ []) h) [
    | inl m ↦ (let r = s.whole g m in (r.0, r.1, (has-put_in nat_laws i r.0 xs).1 (inr r.2)))
    | inr m ↦ elim m [ inl q ↦ (i, e ∙ ap Some (sym q), (has-put_in nat_laws i i xs).1 (inl refl)) | inr z ↦ absurd z ]
  ];
}

pub covers_is : (filters : Lists) (i k : ℕ) (f g : List ConstraintParts) → slice_get filters i ≡ Some f → slice_get filters k ≡ Some g → covers_at filter_covers filters i k ≡ filter_covers f g
unfolding covers_at
covers_is filters i k f g e q = rw (e, q) refl

shows_less : (filters : Lists) (xs : List ℕ) (list : Lists) (i : ℕ) (f : List ConstraintParts) (test : List ConstraintParts → Bool) → slice_get filters i ≡ Some f
    → ((g : List ConstraintParts) → test g ≡ not (filter_covers f g)) → Shows filters xs list → Shows filters (uncovered filters i xs) (filter test list)
shows_less filters xs list i f test e t s = record {
  sound = λ k h.
      let r = filter-Has (λ j. not (covers_at filter_covers filters i j)) k xs h in
      let w = s.sound k r.0 in
      (w.0, w.1, Has-filter test w.0 list w.2 (t w.0 ∙ sym (ap not (covers_is filters i k f w.0 e w.1)) ∙ r.1));
  whole = λ g h.
      let r = filter-Has test g list h in
      let w = s.whole g r.0 in
      (w.0, w.1, Has-filter (λ j. not (covers_at filter_covers filters i j)) w.0 xs w.2 (ap not (covers_is filters i w.0 f g e w.1) ∙ sym (t g) ∙ r.1));
}

step_shown : (known : Catalogued) (client count phase : ℕ) (n : NumberedCommand) (c : Command) (xs : List ℕ) (list : Lists) → RepresentsCommand known client count phase n c
    → Shows known.filters xs list → Shows known.filters (number_step known.filters xs n) (filter_step list c)
step_shown known client count phase (numbers.Subscribe i) c xs list m s =
    subst (λ z. Shows known.filters (put_in nat_lt i xs) (filter_step list z)) (sym m.2) (shows_more known.filters xs list i m.0 m.1 s)
step_shown known client count phase (numbers.Unsubscribe i) c xs list m s =
    subst (λ z. Shows known.filters (uncovered known.filters i xs) (filter_step list z)) (sym m.2)
    (shows_less known.filters xs list i m.0 (λ g. not (filter_covers m.0 g)) m.1 (λ g. refl) s)
step_shown known client count phase (numbers.Advertise i) c xs list m s = subst (λ z. Shows known.filters xs (filter_step list z)) (sym m.2) s
step_shown known client count phase (numbers.Unadvertise i) c xs list m s = subst (λ z. Shows known.filters xs (filter_step list z)) (sym m.2) s
step_shown known client count phase (numbers.Publish i) c xs list m s = subst (λ z. Shows known.filters xs (filter_step list z)) (sym m.2) s

held_shown : (known : Catalogued) (client count : ℕ) (steps : Steps) (script : Script) (xs : List ℕ) (list : Lists) → AreNumbered known client count steps script
    → Shows known.filters xs list → Shows known.filters (numbers_held known.filters xs steps) (filters_held list script)
held_shown known client count [] [] xs list h s = s
held_shown known client count [] (c ∷ cs) xs list h s = absurd h
held_shown known client count (n ∷ ns) [] xs list h s = absurd h
held_shown known client count (n ∷ ns) (c ∷ cs) xs list h s =
    held_shown known client (publishes_after count c.1) ns cs (number_step known.filters xs n.1) (filter_step list c.1) h.2 (step_shown known client count c.0 n.1 c.1 xs list h.1 s)

-- those that are not withdrawn, command by command
kept_step : (c : Command) (cs : Script) (list : Lists) (phase : ℕ) → filter (λ f. not (withdrawn f ((phase, c) ∷ cs))) list ≡ filter (λ f. not (withdrawn f cs)) (filter (λ f. not (withdraws c f)) list)
kept_step c cs [] phase = refl
kept_step c cs (g ∷ list) phase = go (withdraws c g) (withdrawn g cs) refl (kept_step c cs list phase)
  where
    go : (a b : Bool) → withdraws c g ≡ a → filter (λ f. not (withdrawn f ((phase, c) ∷ cs))) list ≡ filter (λ f. not (withdrawn f cs)) (filter (λ f. not (withdraws c f)) list)
        → cond (not (withdraws c g || withdrawn g cs)) (g ∷ filter (λ f. not (withdrawn f ((phase, c) ∷ cs))) list) (filter (λ f. not (withdrawn f ((phase, c) ∷ cs))) list)
        ≡ filter (λ f. not (withdrawn f cs)) (cond (not (withdraws c g)) (g ∷ filter (λ f. not (withdraws c f)) list) (filter (λ f. not (withdraws c f)) list))
    go true b e ih = rw e ih
    go false b e ih = rw e (ap (λ zs. cond (not (withdrawn g cs)) (g ∷ zs) zs) ih)

all_kept : (list : Lists) → filter (λ f. not false) list ≡ list
all_kept [] = refl
all_kept (f ∷ list) = ap (λ z. f ∷ z) (all_kept list)

lasting_one : (known : Catalogued) (client count phase : ℕ) (n : NumberedCommand) (c : Command) (xs : List ℕ) (list : Lists) → RepresentsCommand known client count phase n c
    → Shows known.filters xs list → Shows known.filters (lasting_step known.filters xs n) (filter (λ f. not (withdraws c f)) list)
lasting_one known client count phase (numbers.Subscribe i) c xs list m s =
    subst (λ z. Shows known.filters xs (filter (λ f. not (withdraws z f)) list)) (sym m.2) (subst (Shows known.filters xs) (sym (all_kept list)) s)
lasting_one known client count phase (numbers.Unsubscribe i) c xs list m s =
    subst (λ z. Shows known.filters (uncovered known.filters i xs) (filter (λ f. not (withdraws z f)) list)) (sym m.2)
    (shows_less known.filters xs list i m.0 (λ g. not (filter_covers m.0 g)) m.1 (λ g. refl) s)
lasting_one known client count phase (numbers.Advertise i) c xs list m s =
    subst (λ z. Shows known.filters xs (filter (λ f. not (withdraws z f)) list)) (sym m.2) (subst (Shows known.filters xs) (sym (all_kept list)) s)
lasting_one known client count phase (numbers.Unadvertise i) c xs list m s =
    subst (λ z. Shows known.filters xs (filter (λ f. not (withdraws z f)) list)) (sym m.2) (subst (Shows known.filters xs) (sym (all_kept list)) s)
lasting_one known client count phase (numbers.Publish i) c xs list m s =
    subst (λ z. Shows known.filters xs (filter (λ f. not (withdraws z f)) list)) (sym m.2) (subst (Shows known.filters xs) (sym (all_kept list)) s)

lasting_shown : (known : Catalogued) (client count : ℕ) (steps : Steps) (script : Script) (xs : List ℕ) (list : Lists) → AreNumbered known client count steps script
    → Shows known.filters xs list → Shows known.filters (numbers_lasting known.filters xs steps) (filter (λ f. not (withdrawn f script)) list)
lasting_shown known client count [] [] xs list h s = subst (Shows known.filters xs) (sym (all_kept list)) s
lasting_shown known client count [] (c ∷ cs) xs list h s = absurd h
lasting_shown known client count (n ∷ ns) [] xs list h s = absurd h
lasting_shown known client count (n ∷ ns) (c ∷ cs) xs list h s =
    subst (Shows known.filters (numbers_lasting known.filters xs (n ∷ ns))) (sym (kept_step c.1 cs list c.0))
    (lasting_shown known client (publishes_after count c.1) ns cs (lasting_step known.filters xs n.1) (filter (λ f. not (withdraws c.1 f)) list) h.2
    (lasting_one known client count c.0 n.1 c.1 xs list h.1 s))

-- those that are added
added_one : (c : Command) (list rest : Lists) (n : NumberedCommand) (known : Catalogued) (client count phase : ℕ) (xs : List ℕ) → RepresentsCommand known client count phase n c
    → Shows known.filters xs list → (more : Lists) × Shows known.filters (adding_step xs n) more
    × ((f : List ConstraintParts) → (Has f (more ++ rest) → Has f (list ++ with_filter c rest)) × (Has f (list ++ with_filter c rest) → Has f (more ++ rest)))
added_one c list rest (numbers.Subscribe i) known client count phase xs m s = (
  list ++ m.0 ∷ [],
  shows_more known.filters xs list i m.0 m.1 s,
  subst (λ z. (f : List ConstraintParts) → (Has f ((list ++ m.0 ∷ []) ++ rest) → Has f (list ++ with_filter z rest)) × (Has f (list ++ with_filter z rest) → Has f ((list ++ m.0 ∷ []) ++ rest))) (sym m.2)
      (λ f. ((λ h. subst (Has f) (moved list) h), (λ h. subst (Has f) (sym (moved list)) h))),
)
  where
    moved : (zs : Lists) → (zs ++ m.0 ∷ []) ++ rest ≡ zs ++ m.0 ∷ rest
    moved [] = refl
    moved (z ∷ zs) = ap (λ w. z ∷ w) (moved zs)
added_one c list rest (numbers.Unsubscribe i) known client count phase xs m s =
    (list, s, subst (λ z. (f : List ConstraintParts) → (Has f (list ++ rest) → Has f (list ++ with_filter z rest)) × (Has f (list ++ with_filter z rest) → Has f (list ++ rest))) (sym m.2) (λ f. ((λ h. h), (λ h. h))))
added_one c list rest (numbers.Advertise i) known client count phase xs m s =
    (list, s, subst (λ z. (f : List ConstraintParts) → (Has f (list ++ rest) → Has f (list ++ with_filter z rest)) × (Has f (list ++ with_filter z rest) → Has f (list ++ rest))) (sym m.2) (λ f. ((λ h. h), (λ h. h))))
added_one c list rest (numbers.Unadvertise i) known client count phase xs m s =
    (list, s, subst (λ z. (f : List ConstraintParts) → (Has f (list ++ rest) → Has f (list ++ with_filter z rest)) × (Has f (list ++ with_filter z rest) → Has f (list ++ rest))) (sym m.2) (λ f. ((λ h. h), (λ h. h))))
added_one c list rest (numbers.Publish i) known client count phase xs m s =
    (list, s, subst (λ z. (f : List ConstraintParts) → (Has f (list ++ rest) → Has f (list ++ with_filter z rest)) × (Has f (list ++ with_filter z rest) → Has f (list ++ rest))) (sym m.2) (λ f. ((λ h. h), (λ h. h))))

shows_same : (filters : Lists) (xs : List ℕ) (one other : Lists) → ((f : List ConstraintParts) → (Has f one → Has f other) × (Has f other → Has f one)) → Shows filters xs one → Shows filters xs other
shows_same filters xs one other same s = record {
  sound = λ i h. let r = s.sound i h in (r.0, r.1, (same r.0).0 r.2);
  whole = λ f h. s.whole f ((same f).1 h);
}

nothing_more : (list : Lists) → list ++ [] ≡ list
nothing_more [] = refl
nothing_more (f ∷ list) = ap (λ z. f ∷ z) (nothing_more list)

added_shown : (known : Catalogued) (client count : ℕ) (steps : Steps) (script : Script) (xs : List ℕ) (list : Lists) → AreNumbered known client count steps script
    → Shows known.filters xs list → Shows known.filters (numbers_added xs steps) (list ++ subscribed script)
added_shown known client count [] [] xs list h s = subst (Shows known.filters xs) (sym (nothing_more list)) s
added_shown known client count [] (c ∷ cs) xs list h s = absurd h
added_shown known client count (n ∷ ns) [] xs list h s = absurd h
added_shown known client count (n ∷ ns) (c ∷ cs) xs list h s =
    let one = added_one c.1 list (subscribed cs) n.1 known client count c.0 xs h.1 s in
    shows_same known.filters (numbers_added xs (n ∷ ns)) (one.0 ++ subscribed cs) (list ++ with_filter c.1 (subscribed cs)) one.2
    (added_shown known client (publishes_after count c.1) ns cs (adding_step xs n.1) one.0 h.2 one.1)

-- within a phase
nothing_shown : (filters : Lists) → Shows filters [] []
nothing_shown filters = record { sound = λ i h. absurd h; whole = λ f h. absurd h }

first_shown : (known : Catalogued) (client count phase : ℕ) (steps : Steps) (script : Script) → AreNumbered known client count steps script
    → Shows known.filters (numbers_held known.filters [] (before phase steps)) (filters_held [] (before phase script))
first_shown known client count phase steps script h =
    held_shown known client count (before phase steps) (before phase script) [] []
    (subst (λ k. AreNumbered known client count (before phase steps) (take k script)) (same_below known client count phase steps script h) (taken known client count (below phase steps) steps script h))
    (nothing_shown known.filters)

within_numbered : (known : Catalogued) (client count phase : ℕ) (steps : Steps) (script : Script) → AreNumbered known client count steps script
    → (later : ℕ) × AreNumbered known client later (within phase steps) (within phase script)
within_numbered known client count phase steps script h =
    let a = same_below known client count phase steps script h in
    let b = same_below known client count (phase + 1) steps script h in
    let d = dropped known client count (below phase steps) steps script h in (
      d.0,
      subst (λ k. AreNumbered known client d.0 (within phase steps) (take (k - below phase script) (drop (below phase script) script))) b
          (subst (λ k. AreNumbered known client d.0 (within phase steps) (take (below (phase + 1) steps - k) (drop k script))) a
          (taken known client d.0 (below (phase + 1) steps - below phase steps) (drop (below phase steps) steps) (drop (below phase steps) script) d.1)),
    )

pub every_shown : (filters : Lists) (known : Catalogued) (client count phase : ℕ) (steps : Steps) (script : Script) → known.filters ≡ filters → AreNumbered known client count steps script
    → Shows filters (every_number filters phase steps) (every_filters phase script)
unfolding every_filters
every_shown filters known client count phase steps script e h =
    let w = within_numbered known client count phase steps script h in
    subst (λ z. Shows z (every_number z phase steps) (every_filters phase script)) e
    (lasting_shown known client w.0 (within phase steps) (within phase script) (numbers_held known.filters [] (before phase steps)) (filters_held [] (before phase script)) w.1
    (first_shown known client count phase steps script h))

pub ever_shown : (filters : Lists) (known : Catalogued) (client count phase : ℕ) (steps : Steps) (script : Script) → known.filters ≡ filters → AreNumbered known client count steps script
    → Shows filters (ever_number filters phase steps) (some_filters phase script)
unfolding some_filters
ever_shown filters known client count phase steps script e h =
    let w = within_numbered known client count phase steps script h in
    subst (λ z. Shows z (ever_number z phase steps) (some_filters phase script)) e
    (added_shown known client w.0 (within phase steps) (within phase script) (numbers_held known.filters [] (before phase steps)) (filters_held [] (before phase script)) w.1
    (first_shown known client count phase steps script h))
