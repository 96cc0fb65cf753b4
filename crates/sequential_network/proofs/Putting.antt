-- Messages put on the links of a server one after the other, and what a step of it comes to then.
use Rattle.std.proofs.Common.{◌≡◌, ◌<◌, add-one, take, get_or, ℕ, zero, suc, ◌==◌, ◌&&◌, cond, true, List, [], ◌∷◌, ◌++◌, length, map, filter, drop, inr, slice_get, slice_set, Option, Some, None, refl, sym, ap, subst, ◌∙◌, arith, eq-eqb, ne_eqb}
use Rattle.std.proofs.lemmas.List.{length_push}
use Rattle.base.proofs.Lists.{take-suc-some, get-get_or}
use Rattle.base.specs.Sets.{Has}
use Rattle.base.specs.Numbers.{IsDistinct}
use Rattle.base.proofs.Numbers.{Same, Is, Not, compare}
use Rattle.law_machine.proofs.Lists.{append-nothing, append-together}
use Rattle.server_message.specs.Parts.{SendingParts}
use Rattle.sequential_network.specs.Links.{StampedMessageParts}
use Rattle.net_model.specs.declared.turn.Act.{Act as EntryAct}
use Rattle.net_model.specs.Parts.{entry_parts}
use Rattle.law_machine.specs.Machine.{Receives, Stamped}
use Rattle.law_routing.specs.Server.{Message}
use Rattle.net_model.specs.Real.{real}
use Rattle.sequential_network.specs.Links.{QueueParts, messages_at, waiting_as, messages_to, has_room, AreSame}
use Rattle.sequential_network.specs.Acted.{Servers, StampedInput, input_of, stamp_of, messages_left, IsActed}
use Rattle.sequential_network.specs.Putting.{ArePut}
use Rattle.sequential_network.specs.Stepping.{Stepping}
use Rattle.base.proofs.Sets.{map-has}
use Rattle.std.proofs.lemmas.List.Elements.{filter-append}
use Rattle.std.proofs.lemmas.List.{map-append, length-append}

-- what comes after a member of a list
later : {T : Type 0} (xs : List T) (k : ℕ) (s : T) → Has s (drop (suc k) xs) → Has s (drop k xs)
later [] zero s h = h
later [] (suc k) s h = h
later (y ∷ ys) zero s h = inr h
later (y ∷ ys) (suc k) s h = later ys k s h

abbrev to-in : Option SendingParts → ℕ
to-in None = 0
to-in (Some s) = s.to

rest-apart : (xs : List SendingParts) (k : ℕ) (x : SendingParts) → slice_get xs k ≡ Some x → IsDistinct (map (λ s. s.to) xs) → (s : SendingParts) → Has s (drop (suc k) xs) → s.to ≡ x.to → ⊥
rest-apart [] k x e d s h q = absurd cc
rest-apart (y ∷ ys) zero x e d s h q = d.0 (subst (λ z. Has z (map (λ (s : SendingParts). s.to) ys)) (q ∙ sym to-is) (map-has (λ (s : SendingParts). s.to) ys s h))
  where
    to-is : y.to ≡ x.to
    to-is = ap (λ z. to-in z) e
rest-apart (y ∷ ys) (suc k) x e d s h q = rest-apart ys k x e d.1 s h q

module _ (all : List SendingParts) (server stamp : ℕ) (old : List QueueParts) where
  pub put_none : (new : List QueueParts) → new ≡ old → ((s : SendingParts) → Has s all → has_room old server s.to ≡ true) → ArePut all server stamp old new []
  put_none new same room = record {
    here = λ b. ap (λ z. messages_at z server b) same ∙ sym (append-nothing (messages_at old server b));
    others = λ a b n. ap (λ z. messages_at z a b) same;
    room = λ s h. subst (λ z. has_room z server s.to ≡ true) (sym same) (room s h);
  }

  pub put_more : (put : List SendingParts) (x : SendingParts) (new next : List QueueParts) (frame : StampedMessageParts) → ArePut all server stamp old new put → slice_get all (length put) ≡ Some x
      → IsDistinct (map (λ s. s.to) all) → frame ≡ waiting_as stamp x
      → messages_at next server x.to ≡ messages_at new server x.to ++ frame ∷ []
      → ((a b : ℕ) → (a ≡ server → b ≡ x.to → ⊥) → messages_at next a b ≡ messages_at new a b)
      → ((a b : ℕ) → (a ≡ server → b ≡ x.to → ⊥) → has_room new a b ≡ true → has_room next a b ≡ true)
      → ArePut all server stamp old next (put ++ x ∷ [])
  put_more put x new next frame so at apart is here others rooms = record {
    here = λ b. go b (compare b x.to);
    others = λ a b n. others a b (λ e q. n e) ∙ so.others a b n;
    room = λ s h.
        let g = subst (λ z. Has s (drop z all)) longer h in
        rooms server s.to (λ e q. rest-apart all (length put) x at apart s g q) (so.room s (later all (length put) s g));
  }
    where
      longer : length (put ++ x ∷ []) ≡ suc (length put)
      longer = let l = length-append put (x ∷ []) in omega (arith, l)

      split : (b : ℕ) → messages_to stamp (put ++ x ∷ []) b ≡ messages_to stamp put b ++ messages_to stamp (x ∷ []) b
      split b = ap (map (waiting_as stamp)) (filter-append (λ s. s.to == b) put (x ∷ [])) ∙ map-append (waiting_as stamp) (filter (λ s. s.to == b) put) (filter (λ s. s.to == b) (x ∷ []))

      go : (b : ℕ) → Same b x.to → messages_at next server b ≡ messages_at old server b ++ messages_to stamp (put ++ x ∷ []) b
      go b (Is e v) =
          ap (messages_at next server) e ∙ here ∙ ap (λ z. z ++ frame ∷ []) (ap (messages_at new server) (sym e) ∙ so.here b)
          ∙ append-together (messages_at old server b) (messages_to stamp put b) (frame ∷ [])
          ∙ ap (λ z. messages_at old server b ++ (messages_to stamp put b ++ z)) (ap (λ z. z ∷ []) is ∙ sym one)
          ∙ ap (λ z. messages_at old server b ++ z) (sym (split b))
        where
          one : messages_to stamp (x ∷ []) b ≡ waiting_as stamp x ∷ []
          one = rw (eq-eqb x.to b (sym e)) refl
      go b (Not n v) =
          others server b (λ e q. n q) ∙ so.here b ∙ ap (λ z. messages_at old server b ++ z) (sym (append-nothing (messages_to stamp put b)) ∙ ap (λ z. messages_to stamp put b ++ z) (sym none) ∙ sym (split b))
        where
          none : messages_to stamp (x ∷ []) b ≡ []
          none = rw (ne_eqb x.to b (λ q. n (sym q))) refl

-- what a step comes to: by what was left on the links, and what was put there
pub acted_by : {P : Type 0} (kind : Stepping P) (place server : ℕ) (input : StampedInput) (act : EntryAct) (old new : Servers P) (core next : P) (stamp : ℕ) (sent : List SendingParts)
    → slice_get old.cores place ≡ Some core → (kind.core core).server ≡ server → kind.Steps (input_of input) (stamp_of input) core next stamp sent
    → new.run ≡ old.run → new.cores ≡ slice_set old.cores place next
    → new.journal ≡ old.journal ++ entry_parts stamp server act (map (λ s. s.to) sent) ∷ []
    → (left : ℕ → ℕ → List StampedMessageParts) → ((a b : ℕ) → left a b ≡ messages_left input server old.messages a b)
    → ((b : ℕ) → new.messages server b ≡ left server b ++ messages_to stamp sent b)
    → ((a b : ℕ) → (a ≡ server → ⊥) → new.messages a b ≡ left a b)
    → IsActed kind place input act old new
acted_by kind place server input act old new core next stamp sent here is step same-run cores journal left left-is put others = record {
  core = core;
  next = next;
  stamp = stamp;
  sent = sent;
  here = here;
  same_run = same-run;
  step = step;
  cores = cores;
  journal = journal ∙ ap (λ z. old.journal ++ entry_parts stamp z act (map (λ (s : SendingParts). s.to) sent) ∷ []) (sym is);
  messages = λ a b. go a b (compare a (kind.core core).server);
}
  where
    left-at : (a b : ℕ) → left a b ≡ messages_left input (kind.core core).server old.messages a b
    left-at a b = left-is a b ∙ ap (λ z. messages_left input z old.messages a b) (sym is)

    go : (a b : ℕ) → Same a (kind.core core).server → new.messages a b ≡ messages_left input (kind.core core).server old.messages a b ++ cond (a == (kind.core core).server) (messages_to stamp sent b) []
    go a b (Is e v) = rw v (ap (λ z. new.messages z b) (e ∙ is) ∙ put b ∙ ap (λ z. z ++ messages_to stamp sent b) (ap (λ z. left z b) (sym (e ∙ is)) ∙ left-at a b))
    go a b (Not n v) = rw v (others a b (λ q. n (q ∙ sym is)) ∙ left-at a b ∙ sym (append-nothing (messages_left input (kind.core core).server old.messages a b)))

-- what a reception leaves on the links: its own has lost its first message
pub first_left : (old mid new : List QueueParts) (server from : ℕ) (m : Stamped (Message real)) → AreSame old mid
    → messages_at new from server ≡ drop 1 (messages_at mid from server)
    → ((a b : ℕ) → (a ≡ from → b ≡ server → ⊥) → messages_at new a b ≡ messages_at mid a b)
    → (a b : ℕ) → messages_at new a b ≡ messages_left (Receives from m) server (messages_at old) a b
first_left old mid new server from m same here others a b = go (compare a from) (compare b server)
  where
    go : Same a from → Same b server → messages_at new a b ≡ cond ((a == from) && (b == server)) (drop 1 (messages_at old a b)) (messages_at old a b)
    go (Is e v) (Is f w) = rw (v, w) (subst (λ z. messages_at new z b ≡ drop 1 (messages_at old z b)) (sym e) (subst (λ z. messages_at new from z ≡ drop 1 (messages_at old from z)) (sym f) (here ∙ ap (drop 1) (same from server))))
    go (Is e v) (Not n w) = rw (v, w) (others a b (λ p q. n q) ∙ same a b)
    go (Not n v) s = rw v (others a b (λ p q. n p) ∙ same a b)

pub nothing_put : (messages : List StampedMessageParts) → messages ≡ messages ++ []
nothing_put messages = sym (append-nothing messages)

-- what has no message has no first one
pub nothing_first : (messages : List StampedMessageParts) (first : StampedMessageParts) → messages ≡ [] → slice_get messages 0 ≡ Some first → ⊥
nothing_first [] first none is = cc
nothing_first (x ∷ messages) first none is = cc

-- what was seen of a list, and the next member, are its first members
pub prefix-more : {X : Type 0} (all seen : List X) (x : X) → seen ≡ take (length seen) all → length seen < length all → x ≡ get_or all (length seen) x → seen ++ x ∷ [] ≡ take (length (seen ++ x ∷ [])) all
prefix-more all seen x e l q = rw (length_push seen x, add-one, take-suc-some all (length seen) x (get-get_or all (length seen) x l q)) (ap (λ z. z ++ x ∷ []) e)
