-- Bytes that were written to a sink, one after another.
use Rattle.std.proofs.Common.{◌≡◌, ℕ, ◌+◌, ◌<◌, List, [], ◌∷◌, ◌++◌, take, drop, length, get_or, IsTrue, Option, Some}
use Rattle.std.proofs.Common.{None, Result, Ok, Err, refl, sym, ap, subst, ◌∙◌}
use Rattle.std.specs.List.{flat_map}
use Rattle.std.specs.Option.{unwrap_or, IsNone, IfSome}
use Rattle.std.proofs.lemmas.Bool.{false≢true}
use Rattle.std.proofs.lemmas.List.{append-nil, append_assoc, take_more, take-append-drop}
use Rattle.std.proofs.lemmas.List.Concat.{flat_map-append}
use Rattle.store_model.specs.Paths.{Path, is_root, parent}
use Rattle.store_model.specs.Commands.{Command, command_text, line}
use Rattle.script_lines.specs.SinkState.{SinkState, IsPut, Puts}
use Rattle.script_lines.proofs.Putting.{Puts-none, Puts-one, Puts-then, Puts-cut}
use Rattle.dump_diff.specs.Scripts.{WroteText, commands_text}

-- the lines of commands and of more
pub text_append : (commands more : List Command)
    → commands_text (commands ++ more) ≡ commands_text commands ++ commands_text more
text_append commands more = flat_map-append (λ c. line (command_text c)) commands more

-- the line of a command, and that of none
pub puts_command : {T E : Type 0} (a b : SinkState) (c : Command) (result : Result T E)
    → IsPut a b (line (command_text c)) result → Puts a b (commands_text (c ∷ [])) result
puts_command a b c result put =
    subst (λ (text : List ℕ). Puts a b text result) (sym (append-nil (line (command_text c))))
    (Puts-one a b (line (command_text c)) result put)

pub wrote_no_command : (a : SinkState) → WroteText a a (commands_text [])
wrote_no_command a = Puts-none a tt

-- the commands of one item more
pub one_more : {X Y : Type 0} (f : X → List Y) (items : List X) (i : ℕ) (x : X) → i < length items
    → x ≡ get_or items i x → flat_map f (take (i + 1) items) ≡ flat_map f (take i items) ++ f x
one_more {X = X} {Y = Y} f items i x within at =
    ap (flat_map f) (take_more items i x within ∙ ap (λ (y : X). take i items ++ y ∷ []) (sym at))
    ∙ flat_map-append f (take i items) (x ∷ [])
    ∙ ap (λ (ys : List Y). flat_map f (take i items) ++ ys) (append-nil (f x))

-- and their lines
pub wrote_item : {X : Type 0} (a b c : SinkState) (f : X → List Command) (items : List X) (i : ℕ) (x : X)
    (own : List Command) → own ≡ f x → i < length items → x ≡ get_or items i x
    → WroteText a b (commands_text (flat_map f (take i items))) → WroteText b c (commands_text own)
    → WroteText a c (commands_text (flat_map f (take (i + 1) items)))
wrote_item a b c f items i x own is within at so_far more =
    subst (λ (cs : List Command). WroteText a c (commands_text cs))
    (sym (one_more f items i x within at ∙ ap (λ (cs : List Command). flat_map f (take i items) ++ cs) (sym is)))
    (subst (WroteText a c) (sym (text_append (flat_map f (take i items)) own))
    (Puts-then a b c (commands_text (flat_map f (take i items))) (commands_text own) tt (Ok tt) so_far more))

-- the items before one, it, and those behind it
whole_split : {X Y : Type 0} (f : X → List Y) (items : List X) (i : ℕ) (x : X) → i < length items → x ≡ get_or items i x
    → flat_map f items ≡ flat_map f (take i items) ++ (f x ++ flat_map f (drop (i + 1) items))
whole_split {X = X} {Y = Y} f items i x within at =
    ap (flat_map f) (sym (take-append-drop (i + 1) items))
    ∙ flat_map-append f (take (i + 1) items) (drop (i + 1) items)
    ∙ ap (λ (all : List Y). all ++ flat_map f (drop (i + 1) items)) (one_more f items i x within at)
    ∙ append_assoc (flat_map f (take i items)) (f x) (flat_map f (drop (i + 1) items))

-- a fault at one of the items
pub puts_failed : {X T U E : Type 0} (a b c : SinkState) (f : X → List ℕ) (items : List X) (i : ℕ) (x : X) (fault : E)
    → i < length items → x ≡ get_or items i x
    → WroteText a b (flat_map f (take i items)) → Puts {T = T} b c (f x) (Err fault)
    → Puts {T = U} a c (flat_map f items) (Err fault)
puts_failed {T = T} {U = U} a b c f items i x fault within at so_far failed =
    subst (λ (text : List ℕ). Puts {T = U} a c text (Err fault)) (sym (whole_split f items i x within at))
    (Puts-then a b c (flat_map f (take i items)) (f x ++ flat_map f (drop (i + 1) items)) tt (Err fault) so_far
    (Puts-cut {T = T} b c (f x) (flat_map f (drop (i + 1) items)) fault fault failed))

-- and at the commands of one
pub puts_failed_item : {X T U E : Type 0} (a b c : SinkState) (f : X → List Command) (items : List X) (i : ℕ) (x : X)
    (own : List Command) (fault : E) → own ≡ f x → i < length items → x ≡ get_or items i x
    → WroteText a b (commands_text (flat_map f (take i items))) → Puts {T = T} b c (commands_text own) (Err fault)
    → Puts {T = U} a c (commands_text (flat_map f items)) (Err fault)
puts_failed_item {T = T} {U = U} a b c f items i x own fault is within at so_far failed =
    let more : List Command = flat_map f (drop (i + 1) items) in
    let text : commands_text (flat_map f items) ≡ commands_text (flat_map f (take i items))
    ++ (commands_text (f x) ++ commands_text more) =
    ap commands_text (whole_split f items i x within at) ∙ text_append (flat_map f (take i items)) (f x ++ more)
    ∙ ap (λ (all : List ℕ). commands_text (flat_map f (take i items)) ++ all) (text_append (f x) more) in
    subst (λ (all : List ℕ). Puts {T = U} a c all (Err fault)) (sym text)
    (Puts-then a b c (commands_text (flat_map f (take i items)))
    (commands_text (f x) ++ commands_text more) tt (Err fault) so_far
    (Puts-cut {T = T} b c (commands_text (f x)) (commands_text more) fault fault
    (subst (λ (cs : List Command). Puts {T = T} b c (commands_text cs) (Err fault)) is failed)))

-- the path above one, and the root for the root
pub above_is : (above : Option Path) (p : Path) → (IsNone above → IsTrue (is_root p)) → IfSome above (λ q. q ≡ parent p)
    → unwrap_or above p ≡ parent p
unfolding parent
above_is None [] root some = refl
above_is None (n ∷ p) root some = absurd (false≢true (root refl))
above_is (Some q) p root some = some
