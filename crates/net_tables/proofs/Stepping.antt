-- Lemmas on the numbering of scripts, step by step.
use Rattle.std.proofs.Common.{◌≡◌, ◌≢◌, ℕ, suc, ◌+◌, ◌<◌, ◌≤◌, List, [], ◌∷◌, ◌++◌, length, drop, get_or, slice_get, Some, refl, sym, ap, subst, ◌∙◌, append_assoc, length-append, arith}
use Rattle.std.proofs.lemmas.List.{drop_more, drop_all, append-nil}
use Rattle.filter_text.specs.declared.command.Command.{Command}
use Rattle.filter_text.specs.declared.command.Command.TheVariants as commands
use Rattle.filter_text.specs.Messages.{Lists}
use Rattle.net_model.specs.Parts.{ClientParts}
use Rattle.net_tables.specs.declared.numbered.NumberedCommand.{NumberedCommand}
use Rattle.net_tables.specs.Known.{PublicationParts, publication, publishes_after, published_by, script_publications, known_publications}
use Rattle.net_tables.specs.Numbered.{RepresentsCommand, AreNumbered, AllNumbered}
use Rattle.net_tables.specs.Numbering.{AreNumbersOf, AreNumbers, catalogue_of}

pub published_last : (old new later : List PublicationParts) (p : PublicationParts) (i : ℕ) → new ≡ old ++ p ∷ [] → i ≡ length old → slice_get (new ++ later) i ≡ Some p
published_last old new later p i e f = rw (e, f) (at old)
  where
    at : (xs : List PublicationParts) → slice_get ((xs ++ p ∷ []) ++ later) (length xs) ≡ Some p
    at [] = refl
    at (x ∷ xs) = at xs

-- a member of a list that is left stands before the rest
pub next_left : {T : Type 0} (xs : List T) (i : ℕ) (x : T) → i < length xs → x ≡ get_or xs i x → drop i xs ≡ x ∷ drop (i + 1) xs
next_left xs i x l e = subst (λ y. drop i xs ≡ y ∷ drop (i + 1) xs) (sym e) (drop_more xs i x l)

-- the numbers of a list in two parts
front : {T : Type 0} (known : List T) (numbers : List ℕ) (xs ys : List T) → AreNumbersOf known numbers (xs ++ ys) → AreNumbersOf known numbers xs
front known numbers [] ys a = tt
front known [] (x ∷ xs) ys a = absurd a
front known (n ∷ ns) (x ∷ xs) ys a = (a.0, front known ns xs ys a.1)

pub numbers_first : (filters adverts : Lists) (ns ms : List ℕ) (fs gs cs ds : Lists) → AreNumbers filters adverts ns ms (fs ++ gs) (cs ++ ds) → AreNumbers filters adverts ns ms fs cs
numbers_first filters adverts ns ms fs gs cs ds a = record { filter = front filters ns fs gs a.filter; advert = front adverts ms cs ds a.advert }

pub numbers_apart : (filters adverts : Lists) (ns ms : List ℕ) (fs gs hs cs ds es : Lists) → AreNumbers filters adverts ns ms ((fs ++ gs) ++ hs) ((cs ++ ds) ++ es)
    → AreNumbers filters adverts ns ms (fs ++ (gs ++ hs)) (cs ++ (ds ++ es))
numbers_apart filters adverts ns ms fs gs hs cs ds es a = record {
  filter = subst (AreNumbersOf filters ns) (append_assoc fs gs hs) a.filter;
  advert = subst (AreNumbersOf adverts ms) (append_assoc cs ds es) a.advert;
}

pub numbers_all : (filters adverts : Lists) (ns ms : List ℕ) (fs cs : Lists) → AreNumbers filters adverts ns ms fs cs → AreNumbers filters adverts ns ms (fs ++ []) (cs ++ [])
numbers_all filters adverts ns ms fs cs a = record {
  filter = subst (AreNumbersOf filters ns) (sym (append-nil fs)) a.filter;
  advert = subst (AreNumbersOf adverts ms) (sym (append-nil cs)) a.advert;
}

-- the first number, and those behind it
pub some_number : {T : Type 0} (known : List T) (numbers : List ℕ) (x : T) (xs : List T) → AreNumbersOf known numbers (x ∷ xs) → numbers ≢ []
some_number known numbers x xs a e = subst (λ z. AreNumbersOf known z (x ∷ xs)) e a

pub first_number : {T : Type 0} (known : List T) (numbers rest : List ℕ) (n : ℕ) (x : T) (xs : List T) → numbers ≡ n ∷ rest → AreNumbersOf known numbers (x ∷ xs)
    → (slice_get known n ≡ Some x) × AreNumbersOf known rest xs
first_number known numbers rest n x xs e a = subst (λ z. AreNumbersOf known z (x ∷ xs)) e a

-- the publications of a step and of those behind it
pub publications_next : (old new here rest final : List PublicationParts) → new ≡ old ++ here → old ++ (here ++ rest) ≡ final → new ++ rest ≡ final
publications_next old new here rest final e f = rw e (append_assoc old here rest ∙ f)

pub counted_next : (old new : List PublicationParts) (client count phase : ℕ) (command : Command) → count ≤ length old → new ≡ old ++ published_by client count phase command
    → publishes_after count command ≤ length new
counted_next old new client count phase (commands.Subscribe f) l e = rw (e, append-nil old) l
counted_next old new client count phase (commands.Unsubscribe f) l e = rw (e, append-nil old) l
counted_next old new client count phase (commands.Advertise a) l e = rw (e, append-nil old) l
counted_next old new client count phase (commands.Unadvertise a) l e = rw (e, append-nil old) l
counted_next old new client count phase (commands.Publish n) l e = rw e (omega (arith, length-append old (publication client (suc count) phase n ∷ [])))

-- one more step by its number
pub numbered_next : (filters adverts : Lists) (new rest final later : List PublicationParts) (client count : ℕ) (step : ℕ × Command) (steps script : List (ℕ × Command))
    (n : NumberedCommand) (done : List (ℕ × NumberedCommand)) → new ++ rest ≡ final
    → ((after : List PublicationParts) → RepresentsCommand (catalogue_of filters adverts (new ++ after)) client count step.0 n step.1)
    → ((ns : List (ℕ × NumberedCommand)) → AreNumbered (catalogue_of filters adverts (final ++ later)) client count ns (step ∷ steps)
    → AreNumbered (catalogue_of filters adverts (final ++ later)) client 0 (done ++ ns) script)
    → (ns : List (ℕ × NumberedCommand)) → AreNumbered (catalogue_of filters adverts (final ++ later)) client (publishes_after count step.1) ns steps
    → AreNumbered (catalogue_of filters adverts (final ++ later)) client 0 ((done ++ (step.0, n) ∷ []) ++ ns) script
numbered_next filters adverts new rest final later client count step steps script n done e represents before ns h =
    let here : RepresentsCommand (catalogue_of filters adverts (final ++ later)) client count step.0 n step.1 =
    subst (λ ps. RepresentsCommand (catalogue_of filters adverts ps) client count step.0 n step.1) (sym (append_assoc new rest later) ∙ ap (λ ps. ps ++ later) e) (represents (rest ++ later)) in
    subst (λ z. AreNumbered (catalogue_of filters adverts (final ++ later)) client 0 z script) (sym (append_assoc done ((step.0, n) ∷ []) ns))
    (before ((step.0, n) ∷ ns) (refl, here, h))

-- one more client
pub all_next : (filters adverts : Lists) (new rest final : List PublicationParts) (number : ℕ) (client : ClientParts) (clients all : List ClientParts)
    (numbered : List (ℕ × NumberedCommand)) (done : List (List (ℕ × NumberedCommand))) → new ++ rest ≡ final
    → ((later : List PublicationParts) → AreNumbered (catalogue_of filters adverts (new ++ later)) number 0 numbered client.script)
    → ((ns : List (List (ℕ × NumberedCommand))) → AllNumbered (catalogue_of filters adverts final) number ns (client ∷ clients)
    → AllNumbered (catalogue_of filters adverts final) 1 (done ++ ns) all)
    → (ns : List (List (ℕ × NumberedCommand))) → AllNumbered (catalogue_of filters adverts final) (suc number) ns clients
    → AllNumbered (catalogue_of filters adverts final) 1 ((done ++ numbered ∷ []) ++ ns) all
all_next filters adverts new rest final number client clients all numbered done e represents before ns h =
    let here : AreNumbered (catalogue_of filters adverts final) number 0 numbered client.script =
    subst (λ ps. AreNumbered (catalogue_of filters adverts ps) number 0 numbered client.script) e (represents rest) in
    subst (λ z. AllNumbered (catalogue_of filters adverts final) 1 z all) (sym (append_assoc done (numbered ∷ []) ns)) (before (numbered ∷ ns) (here, h))

-- nothing is left
pub script_end : (filters adverts : Lists) (publications final later : List PublicationParts) (client count : ℕ) (script : List (ℕ × Command)) (done steps : List (ℕ × NumberedCommand)) (i : ℕ)
    → length script ≤ i → steps ≡ done → publications ++ script_publications client count (drop i script) ≡ final
    → ((ns : List (ℕ × NumberedCommand)) → AreNumbered (catalogue_of filters adverts (final ++ later)) client count ns (drop i script)
    → AreNumbered (catalogue_of filters adverts (final ++ later)) client 0 (done ++ ns) script)
    → AreNumbered (catalogue_of filters adverts (publications ++ later)) client 0 steps script
script_end filters adverts publications final later client count script done steps i l s e before =
    let none : drop i script ≡ [] = drop_all i script l in
    let all : publications ≡ final = sym (append-nil publications) ∙ sym (ap (λ z. publications ++ script_publications client count z) none) ∙ e in
    let given : AreNumbered (catalogue_of filters adverts (final ++ later)) client 0 (done ++ []) script =
    before [] (subst (λ z. AreNumbered (catalogue_of filters adverts (final ++ later)) client count [] z) (sym none) tt) in
    rw (all, s, ← append-nil done) given

pub all_end : (filters adverts : Lists) (publications final : List PublicationParts) (number : ℕ) (clients : List ClientParts) (done : List (List (ℕ × NumberedCommand))) (i : ℕ)
    → length clients ≤ i → publications ++ known_publications number (drop i clients) ≡ final
    → ((ns : List (List (ℕ × NumberedCommand))) → AllNumbered (catalogue_of filters adverts final) number ns (drop i clients)
    → AllNumbered (catalogue_of filters adverts final) 1 (done ++ ns) clients)
    → AllNumbered (catalogue_of filters adverts publications) 1 done clients
all_end filters adverts publications final number clients done i l e before =
    let none : drop i clients ≡ [] = drop_all i clients l in
    let all : publications ≡ final = sym (append-nil publications) ∙ sym (ap (λ z. publications ++ known_publications number z) none) ∙ e in
    let given : AllNumbered (catalogue_of filters adverts final) 1 (done ++ []) clients =
    before [] (subst (λ z. AllNumbered (catalogue_of filters adverts final) number [] z) (sym none) tt) in
    rw all (subst (λ z. AllNumbered (catalogue_of filters adverts final) 1 z clients) (append-nil done) given)
