-- No byte of what a run tells is below a space, where none of its scripts' filters, advertisements and notices is.
use Rattle.std.proofs.Common.{◌≡◌, ℕ, true, inl, inr, List, [], ◌∷◌, ◌++◌, map, refl, nat_le}
use Rattle.std.specs.Prelude.{codes}
use Rattle.std.specs.Fmt.{decimal}
use Rattle.std.specs.List.{flat_map}
use Rattle.filter_constraints.specs.Constraint.{ConstraintParts}
use Rattle.filter_types.specs.Notice.{Attribute}
use Rattle.law_routing.specs.Server.{Message, Subs, Advs, Noticed, Publication}
use Rattle.net_model.specs.Real.{real}
use Rattle.filter_text.specs.declared.sent.Sent.{Sent}
use Rattle.filter_text.specs.Deliveries.{Delivery}
use Rattle.filter_text.specs.FilterText.{constraints_text}
use Rattle.filter_text.specs.NoticeText.{notice_text}
use Rattle.filter_text.specs.MessageText.{change_text, changes_text, id_text, message_text}
use Rattle.server_spec.specs.Control.{sent_to, texts, wired}
use Rattle.net_model.specs.Meaning.{deliveries_of, delivery_of}
use Rattle.audit_claim.proofs.Spelled.{are_shown, decimal-dense, dense-shown}
use Rattle.audit_verdict.proofs.Kept.{All, KeepsMessage, all-append, all-map, all-none}
use Rattle.base.proofs.Lists.{list_all-append}

abbrev pub IsShownList : List ConstraintParts → Type 0
IsShownList f = are_shown (constraints_text f) ≡ true

abbrev pub IsShownNotice : List Attribute → Type 0
IsShownNotice n = are_shown (notice_text n) ≡ true

pub decimal-shown : (n : ℕ) → are_shown (decimal n) ≡ true
decimal-shown n = dense-shown (decimal n) (decimal-dense n)

change-shown : (sign : ℕ) (f : List ConstraintParts) → are_shown (sign ∷ []) ≡ true → IsShownList f → are_shown (change_text sign f) ≡ true
change-shown sign f s h = list_all-append (nat_le 32) (32 ∷ sign ∷ 123 ∷ []) (constraints_text f ++ 125 ∷ []) (list_all-append (nat_le 32) (32 ∷ sign ∷ []) (123 ∷ []) (list_all-append (nat_le 32) (32 ∷ []) (sign ∷ []) refl s) refl) (list_all-append (nat_le 32) (constraints_text f) (125 ∷ []) h refl)

flat-shown : {A : Type 0} (P : A → Type 0) (text : A → List ℕ) → ((x : A) → P x → are_shown (text x) ≡ true) → (xs : List A) → All P xs → are_shown (flat_map text xs) ≡ true
flat-shown P text one [] h = refl
flat-shown P text one (x ∷ xs) h = list_all-append (nat_le 32) (text x) (flat_map text xs) (one x (h x (inl refl))) (flat-shown P text one xs (λ y m. h y (inr m)))

changes-shown : (out add : List (List ConstraintParts)) → All IsShownList out → All IsShownList add → are_shown (changes_text out add) ≡ true
unfolding changes_text
changes-shown out add p q =
    list_all-append (nat_le 32) (flat_map (change_text 45) out) (flat_map (change_text 43) add) (flat-shown IsShownList (change_text 45) (λ f h. change-shown 45 f refl h) out p) (flat-shown IsShownList (change_text 43) (λ f h. change-shown 43 f refl h) add q)

abbrev pub IsShownMessage : Message real → Type 0
IsShownMessage m = KeepsMessage real IsShownList IsShownList IsShownNotice m

pub message-shown : (m : Message real) → IsShownMessage m → are_shown (message_text (wired m)) ≡ true
unfolding message_text id_text
message-shown (Subs out add) h = list_all-append (nat_le 32) (codes "subs") (changes_text out add) refl (changes-shown out add h.0 h.1)
message-shown (Advs out add) h = list_all-append (nat_le 32) (codes "advs") (changes_text out add) refl (changes-shown out add h.0 h.1)
message-shown (Noticed q o n) h =
    list_all-append (nat_le 32) (codes "notice " ++ (decimal q ++ 32 ∷ decimal o)) (32 ∷ notice_text n)
    (list_all-append (nat_le 32) (codes "notice ") (decimal q ++ 32 ∷ decimal o) refl (list_all-append (nat_le 32) (decimal q) (32 ∷ decimal o) (decimal-shown q) (decimal-shown o)))
    (list_all-append (nat_le 32) (32 ∷ []) (notice_text n) refl h)

abbrev pub IsShownSent : Sent → Type 0
IsShownSent s = are_shown s.bytes ≡ true

pub sent-shown : (messages : ℕ → List (Message real)) (links : List ℕ) → ((l : ℕ) → All IsShownMessage (messages l)) → All IsShownSent (texts messages links)
sent-shown messages [] h = all-none IsShownSent
sent-shown messages (l ∷ links) h =
    all-append IsShownSent (map (sent_to l) (messages l)) (texts messages links)
    (all-map IsShownSent (sent_to l) (messages l) (λ m i. message-shown m (h l m i))) (sent-shown messages links h)

-- what was delivered
abbrev pub IsShownDelivery : Delivery → Type 0
IsShownDelivery d = are_shown d.bytes ≡ true

pub deliveries-shown : (inbox : List (Publication real)) → All (λ (p : Publication real). IsShownNotice p.notice) inbox → All IsShownDelivery (deliveries_of inbox)
deliveries-shown inbox h = all-map IsShownDelivery delivery_of inbox h
