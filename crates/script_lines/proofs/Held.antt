-- The bytes that a reader of lines holds, as a part of its buffer.
use Rattle.std.proofs.Common.{false, get_or, ◌∷◌, ◌≡◌, ℕ, ◌+◌, ◌-◌, ◌≤◌, List, [], ◌++◌, length, take, drop, sym, ap}
use Rattle.std.proofs.Common.{◌∙◌, arith}
use Rattle.std.proofs.lemmas.List.{take-take, drop-take, drop-drop, length-take, length-drop, length-append}
use Rattle.std.proofs.lemmas.List.{length-take-le, drop_at, take-append-le}
use Rattle.std.proofs.lemmas.Slice.{take-put_mid_below}
use borrow.Rule.Slice.PartMut.{put_mid}
use Rattle.script_lines.proofs.StateLemmas.{take-add}
use Rattle.script_lines.specs.LineState.{LineState}

-- without the first of them
pub held_drop : (xs : List ℕ) (start end count : ℕ) → start + count ≤ end
    → take (end - (start + count)) (drop (start + count) xs) ≡ drop count (take (end - start) (drop start xs))
held_drop xs start end count fits =
    let rest = end - (start + count) in
    let sum : count + rest ≡ end - start = omega arith in
    ap (take rest) (sym (drop-drop count start xs)) ∙ sym (drop-take count rest (drop start xs))
    ∙ ap (λ n. drop count (take n (drop start xs))) sum

-- the first of them
pub held_take : (xs : List ℕ) (start end count : ℕ) → start + count ≤ end
    → take ((start + count) - start) (drop start xs) ≡ take count (take (end - start) (drop start xs))
held_take xs start end count fits =
    let same : (start + count) - start ≡ count = omega arith in
    ap (λ n. take n (drop start xs)) same ∙ sym (take-take count (end - start) (drop start xs) (omega arith))

-- how many they are
pub length-held : (xs : List ℕ) (start end : ℕ) → end ≤ length xs
    → length (take (end - start) (drop start xs)) ≡ end - start
length-held xs start end fits = length-take (end - start) (drop start xs) ∙ omega (arith, length-drop start xs)

-- readers that are equal hold the same bytes
pub same_held : {R : Type 0} {a b : LineState R} → a ≡ b → a.held ≡ b.held
same_held e = ap (λ r. r.held) e

-- readers that differ in the bytes held
pub with_held : {R : Type 0} (a : LineState R) {held other : List ℕ} → held ≡ other
    → record a { held = held } ≡ record a { held = other }
with_held a e = ap (λ held. record a { held = held }) e

pub with_held_text : {R : Type 0} (a : LineState R) {held other text shown : List ℕ} → held ≡ other → text ≡ shown
    → record a { held = held; text = text } ≡ record a { held = other; text = shown }
with_held_text a {held} {other} {text} {shown} e f =
    ap (λ (h : List ℕ). record a { held = h; text = text }) e
    ∙ ap (λ (t : List ℕ). record a { held = other; text = t }) f

-- a reader whose fields were written, and then is seen again
pub passed : {R : Type 0} {a b : LineState R} (count : ℕ) → a ≡ b → {held : List ℕ} → held ≡ drop count a.held
    → record a { held = held } ≡ record b { held = drop count b.held }
passed {R} {a} count e f = with_held a f ∙ ap {A = LineState R} (λ r. record r { held = drop count r.held }) e

pub answered : {R : Type 0} {a b : LineState R} (count line_len : ℕ) → a ≡ b → {held text : List ℕ}
    → held ≡ drop count a.held → text ≡ take line_len a.held
    → record a { held = held; text = text } ≡ record b { held = drop count b.held; text = take line_len b.held }
answered {R} {a} count line_len e f h = with_held_text a f h
    ∙ ap {A = LineState R} (λ r. record r { held = drop count r.held; text = take line_len r.held }) e

pub answered_long : {R : Type 0} {a b : LineState R} (count : ℕ) → a ≡ b → {held text : List ℕ}
    → held ≡ drop count a.held → text ≡ [] → record a { held = held; text = text }
    ≡ record b { held = drop count b.held; text = [] }
answered_long {R} {a} count e f h = with_held_text a f h
    ∙ ap {A = LineState R} (λ r. record r { held = drop count r.held; text = [] }) e

-- no byte is shown
pub none_shown : (xs : List ℕ) (start : ℕ) → take (start - start) xs ≡ []
none_shown xs start = let none : start - start ≡ 0 = omega arith in ap (λ n. take n xs) none

-- so many bytes taken behind those held
pub held_filled : (held mid into items : List ℕ) (size k count n : ℕ) → n ≡ size + count → take size mid ≡ held
    → size ≤ length mid → items ≡ put_mid size k mid into → count ≤ length into → take n items ≡ held ++ take count into
held_filled held mid into items size k count n n_is held_is fits items_are within =
    ap (λ m. take m items) n_is
    ∙ ap (take (size + count)) items_are
    ∙ take-add size count (put_mid size k mid into)
    ∙ ap (λ (front : List ℕ). front ++ take count (drop size (put_mid size k mid into)))
    (take-put_mid_below size k mid into size (omega arith) fits ∙ held_is)
    ∙ ap (λ (rest : List ℕ). held ++ take count rest)
    (drop_at (take size mid) (into ++ drop k (drop size mid)) size (length-take-le size mid fits))
    ∙ ap (λ (piece : List ℕ). held ++ piece) (take-append-le count into (drop k (drop size mid)) within)

pub refilled : {R : Type 0} {a b : LineState R} (source : R) (piece : List ℕ) (count : ℕ) → a ≡ b → {held : List ℕ}
    → held ≡ a.held ++ piece → record a { source = source; held = held; taken = a.taken + count; text = [] }
    ≡ record b { source = source; held = b.held ++ piece; taken = b.taken + count; text = [] }
refilled {R} {a} source piece count e f =
    ap {A = List ℕ} (λ held. record a { source = source; held = held; taken = a.taken + count; text = [] }) f
    ∙ ap {A = LineState R} (λ r. record r {
      source = source;
      held = r.held ++ piece;
      taken = r.taken + count;
      text = [];
    }) e

pub broken : {R : Type 0} {a b : LineState R} (source : R) → a ≡ b → {held : List ℕ} → held ≡ a.held
    → record a { source = source; held = held; is_live = false; text = [] }
    ≡ record b { source = source; is_live = false; text = [] }
broken {R} {a} source e f =
    ap {A = List ℕ} (λ held. record a { source = source; held = held; is_live = false; text = [] }) f
    ∙ ap {A = LineState R} (λ r. record r { source = source; is_live = false; text = [] }) e

-- a part written by as many bytes leaves the length
pub length-put_mid : (mid into : List ℕ) (size k : ℕ) → size + k ≤ length mid → length into ≡ k
    → length (put_mid size k mid into) ≡ length mid
length-put_mid mid into size k fits same =
    length-append (take size mid) (into ++ drop k (drop size mid))
    ∙ omega (
      arith,
      length-append into (drop k (drop size mid)),
      length-drop k
          (drop size mid),
      length-drop size mid,
      length-take-le size mid (omega arith),
    )

-- one byte
pub one_byte : (into : List ℕ) (count : ℕ) → count ≡ 1 → 1 ≤ length into → take count into ≡ get_or into 0 0 ∷ []
one_byte [] count one some = absurd (omega arith)
one_byte (byte ∷ into) count one some = ap (λ n. take n (byte ∷ into)) one

-- the bytes held stay where others are written behind them
pub held_kept : (held mid into items : List ℕ) (size k n : ℕ) → n ≡ size → take size mid ≡ held → size ≤ length mid
    → items ≡ put_mid size k mid into → take n items ≡ held
held_kept held mid into items size k n n_is held_is fits items_are =
    ap (λ m. take m items) n_is ∙ ap (take size) items_are
    ∙ take-put_mid_below size k mid into size (omega arith) fits ∙ held_is
