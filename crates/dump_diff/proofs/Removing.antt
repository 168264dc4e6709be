-- The commands of removals that are added one after another.
use Rattle.std.proofs.Common.{◌≡◌, ℕ, ◌+◌, ◌<◌, ◌≤◌, List, [], ◌++◌, take, length, get_or, sym, ap, ◌∙◌, append_assoc}
use Rattle.std.specs.List.{flat_map}
use Rattle.std.proofs.lemmas.List.{append-nil, take_all}
use Rattle.store_model.specs.Commands.{Command}
use Rattle.dump_diff.proofs.Written.{one_more}

pub pushed_none : (old : List Command) → old ≡ old ++ []
pushed_none old = sym (append-nil old)

pub pushed_item : {X : Type 0} (old mid new : List Command) (f : X → List Command) (items : List X) (i : ℕ) (x : X)
    (own : List Command) → own ≡ f x → i < length items → x ≡ get_or items i x
    → mid ≡ old ++ flat_map f (take i items) → new ≡ mid ++ own → new ≡ old ++ flat_map f (take (i + 1) items)
pushed_item old mid new f items i x own is within at so_far more =
    more ∙ ap (λ (cs : List Command). cs ++ own) so_far ∙ append_assoc old (flat_map f (take i items)) own
    ∙ ap (λ (cs : List Command). old ++ (flat_map f (take i items) ++ cs)) is
    ∙ ap (λ (cs : List Command). old ++ cs) (sym (one_more f items i x within at))

pub pushed_all : {X : Type 0} (old mid : List Command) (f : X → List Command) (items : List X) (i : ℕ)
    → length items ≤ i → mid ≡ old ++ flat_map f (take i items) → mid ≡ old ++ flat_map f items
pushed_all old mid f items i past so_far =
    so_far ∙ ap (λ xs. old ++ flat_map f xs) (take_all i items past)
