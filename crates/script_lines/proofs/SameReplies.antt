-- That `same_reply` tells whether two replies are equal.
use Rattle.std.proofs.Common.{◌≡◌, ℕ, Bool, true, false, ◌&&◌, nat_eq, refl, ap, ◌∙◌, Option, Some, None}
use Rattle.std.specs.Bool.{Decides}
use Rattle.std.specs.Option.{option_eq}
use Rattle.std.proofs.lemmas.Slice.Eq.{bytes_eq-Decides, slice_eq-Decides}
use Rattle.std.proofs.lemmas.Bool.{eqb-true, eq-eqb}
use Rattle.store_model.specs.declared.refusal.Refusal.{Refusal}
use Rattle.store_model.specs.declared.refusal.Refusal.TheVariants as refusals
use Rattle.store_model.specs.Commands.{Reply, Child, AttributeSize}
use Rattle.store_model.specs.Commands.Reply.{Acknowledged, Content, Listing, AttributeListing, PagesUsed, ImageDigest}
use Rattle.store_model.specs.Commands.Reply.{Refused}
use Rattle.script_lines.specs.Sessions.{refusal_code, same_refusal, same_child, same_attribute, same_reply}

-- ---- two tests

both : (a b : Bool) → (a && b) ≡ true → (a ≡ true) × (b ≡ true)
both true b e = (refl, e)
both false b e = cc

Decides-pair : {A B : Type 0} {E : A → A → Bool} {F : B → B → Bool} → ((a b : A) → Decides (E a b) (a ≡ b))
    → ((a b : B) → Decides (F a b) (a ≡ b))
    → (x y : A × B) → Decides (E x.0 y.0 && F x.1 y.1) (x ≡ y)
Decides-pair {A} {B} {E} {F} first second x y = (
  λ e.
      let parts = both (E x.0 y.0) (F x.1 y.1) e in
      ap (λ (a : A). let pair : A × B = (a, x.1) in pair) ((first x.0 y.0).0 parts.0)
      ∙ ap (λ (b : B). let pair : A × B = (y.0, b) in pair) ((second x.1 y.1).0 parts.1),
  λ same.
      ap (λ a. a && F x.1 y.1) ((first x.0 y.0).1 (ap (λ (p : A × B). p.0) same))
      ∙ (second x.1 y.1).1 (ap (λ (p : A × B). p.1) same),
)

Decides-number : (a b : ℕ) → Decides (nat_eq a b) (a ≡ b)
Decides-number a b = (eqb-true a b, eq-eqb a b)

Decides-size : (a b : Option ℕ) → Decides (option_eq nat_eq a b) (a ≡ b)
Decides-size None None = (λ _. refl, λ _. refl)
Decides-size None (Some b) = (λ e. cc, λ e. cc)
Decides-size (Some a) None = (λ e. cc, λ e. cc)
Decides-size (Some a) (Some b) = (λ e. ap Some (eqb-true a b e), λ e. eq-eqb a b (let same : a ≡ b = cc in same))

-- ---- refusals

-- refusals with one code are the same
same_code : (one other : Refusal) → refusal_code one ≡ refusal_code other → one ≡ other
same_code refusals.Long refusals.Long e = refl
same_code refusals.Syntax refusals.Syntax e = refl
same_code refusals.Path refusals.Path e = refl
same_code refusals.Root refusals.Root e = refl
same_code refusals.Parent refusals.Parent e = refl
same_code refusals.Exists refusals.Exists e = refl
same_code refusals.Missing refusals.Missing e = refl
same_code refusals.Inside refusals.Inside e = refl
same_code refusals.Kind refusals.Kind e = refl
same_code refusals.Gap refusals.Gap e = refl
same_code refusals.Big refusals.Big e = refl
same_code refusals.NotEmpty refusals.NotEmpty e = refl
same_code refusals.Version refusals.Version e = refl
same_code refusals.NoAttr refusals.NoAttr e = refl
same_code (refusals.Full need slots) (refusals.Full other_need other_slots) e = cc
same_code one other e = cc

Decides-refusal : (one other : Refusal) → Decides (same_refusal one other) (one ≡ other)
Decides-refusal one other =
    let codes = bytes_eq-Decides (refusal_code one) (refusal_code other) in
    (λ e. same_code one other (codes.0 e), λ same. codes.1 (ap refusal_code same))

-- ---- replies

Decides-child : (one other : Child) → Decides (same_child one other) (one ≡ other)
Decides-child = Decides-pair bytes_eq-Decides Decides-size

Decides-attribute : (one other : AttributeSize) → Decides (same_attribute one other) (one ≡ other)
Decides-attribute = Decides-pair bytes_eq-Decides Decides-number

-- replies that are told to be the same are equal
pub same_reply-true : (one other : Reply) → same_reply one other ≡ true → one ≡ other
unfolding same_reply
same_reply-true Acknowledged Acknowledged e = refl
same_reply-true (Content one) (Content other) e = ap Content ((bytes_eq-Decides one other).0 e)
same_reply-true (Listing one) (Listing other) e = ap Listing ((slice_eq-Decides Decides-child one other _ refl).0 e)
same_reply-true (AttributeListing one) (AttributeListing other) e =
    ap AttributeListing ((slice_eq-Decides Decides-attribute one other _ refl).0 e)
same_reply-true (PagesUsed used slots) (PagesUsed other_used other_slots) e =
    let parts = both (nat_eq used other_used) (nat_eq slots other_slots) e in
    let same_used : used ≡ other_used = eqb-true used other_used parts.0 in
    let same_slots : slots ≡ other_slots = eqb-true slots other_slots parts.1 in
    cc
same_reply-true (ImageDigest one) (ImageDigest other) e = ap ImageDigest ((bytes_eq-Decides one other).0 e)
same_reply-true (Refused one) (Refused other) e = ap Refused ((Decides-refusal one other).0 e)
same_reply-true one other e = cc

-- and a reply is told to be the same as itself
pub same_reply-refl : (reply : Reply) → same_reply reply reply ≡ true
unfolding same_reply
same_reply-refl Acknowledged = refl
same_reply-refl (Content bytes) = (bytes_eq-Decides bytes bytes).1 refl
same_reply-refl (Listing children) = (slice_eq-Decides Decides-child children children _ refl).1 refl
same_reply-refl (AttributeListing attributes) = (slice_eq-Decides Decides-attribute attributes attributes _ refl).1 refl
same_reply-refl (PagesUsed used slots) = ap (λ b. b && nat_eq slots slots) (eq-eqb used used refl)
    ∙ eq-eqb slots slots refl
same_reply-refl (ImageDigest digest) = (bytes_eq-Decides digest digest).1 refl
same_reply-refl (Refused refusal) = (Decides-refusal refusal refusal).1 refl
