-- What several answers of a reader of lines mean after one another, and what its steps mean.
use Rattle.std.proofs.Common.{◌≡◌, ℕ, suc, ◌+◌, ◌-◌, ◌<◌, true, false, List, [], ◌∷◌, ◌++◌, length, take, drop, get_or}
use Rattle.std.proofs.Common.{◌==◌, refl, sym, ap, ◌∙◌, subst, arith, Result, Ok, Err}
use Rattle.std.proofs.lemmas.List.{append-nil, append_assoc, length-append, length-drop, take-append-drop, drop-drop}
use Rattle.std.proofs.lemmas.List.{take_at, drop_at, take-take, drop-take, take_more, get_or_at, length-take-le}
use Rattle.std.proofs.lemmas.List.Elements.{All-append}
use Rattle.store_model.specs.Scripts.{lines}
use Rattle.script_lines.specs.Lines.{HasNoEnd, ended_lines}
use Rattle.script_lines.specs.SourceState.{SourceState, IsObservable}
use Rattle.script_lines.specs.LineState.{LineState, left, to_come, ended_within, Takes, Answers, FailsBetween}
use Rattle.script_lines.specs.LineState.{PassesLimit, NextLine, Adds, Overflows, Breaks}
use Rattle.script_lines.specs.declared.lines.Line.{Line}
use Rattle.script_lines.specs.declared.lines.Line.TheVariants as answers
use Rattle.script_lines.specs.declared.lines.LineFault.{LineFault}
use Rattle.script_lines.specs.declared.lines.LineFault.TheVariants as causes
use Rattle.script_lines.proofs.LineLemmas.{EndsAt, lines-blank, ended_lines-blank, lines-line, ended_lines-line}
use Rattle.script_lines.proofs.LineLemmas.{lines-last, lines-none, ended_lines-none}

-- a front of n + m elements
pub take-add : (n m : ℕ) (xs : List ℕ) → take (n + m) xs ≡ take n xs ++ take m (drop n xs)
take-add n m xs =
    sym (take-append-drop n (take (n + m) xs))
    ∙ ap (λ (front : List ℕ). front ++ drop n (take (n + m) xs)) (take-take n (n + m) xs (omega arith))
    ∙ ap (λ (rest : List ℕ). take n xs ++ rest) (drop-take n m xs)

module _ {R : Type 0} (state : R → SourceState) where
  pub Takes-refl : (a : LineState R) → Takes state a a
  Takes-refl a = record {
    limit = refl;
    taken = omega arith;
    fits = omega arith;
    left = let none : a.taken - a.taken ≡ 0 = omega arith in sym (ap (λ n. drop n (left state a)) none);
  }

  pub Takes-trans : (a b c : LineState R) → Takes state a b → Takes state b c → Takes state a c
  Takes-trans a b c ab bc = record {
    limit = bc.limit ∙ ab.limit;
    taken = omega arith;
    fits = omega (
      arith,
      ap length ab.left,
      length-drop (b.taken - a.taken)
          (left state a),
      ab.taken,
      bc.taken,
      ab.fits,
      bc.fits,
    );
    left = let sum : (b.taken - a.taken) + (c.taken - b.taken) ≡ c.taken - a.taken =
        omega (arith, ab.taken, bc.taken) in
        bc.left ∙ ap (drop (c.taken - b.taken)) ab.left
        ∙ drop-drop (c.taken - b.taken) (b.taken - a.taken) (left state a) ∙ ap (λ n. drop n (left state a)) sum;
  }

  -- from no answer on
  pub Answers-refl : (a : LineState R) → Answers state a a []
  Answers-refl a = record {
    takes = Takes-refl a;
    lines = refl;
    ended = λ live count. (let same : (a.taken - a.taken) + count ≡ count = omega arith
        in ap (ended_within state a) same);
    goes_on = λ e. e;
  }

  -- answers after one another
  pub Answers-trans : (a b c : LineState R) (xs ys : List (List ℕ)) → Answers state a b xs → Answers state b c ys
      → Answers state a c (xs ++ ys)
  Answers-trans a b c xs ys ab bc = record {
    takes = Takes-trans a b c ab.takes bc.takes;
    lines = ab.lines ∙ ap (λ (ts : List (List ℕ)). xs ++ ts) bc.lines ∙ sym (append_assoc xs ys _);
    ended = λ live count.
        (let sum : (c.taken - a.taken) + count ≡ (b.taken - a.taken) + ((c.taken - b.taken) + count) =
        omega (arith, ab.takes.taken, bc.takes.taken) in
        ap (ended_within state a) sum ∙ ab.ended (bc.goes_on live) ((c.taken - b.taken) + count)
        ∙ ap (λ (ts : List (List ℕ)). xs ++ ts) (bc.ended live count) ∙ sym (append_assoc xs ys _));
    goes_on = λ live. ab.goes_on (bc.goes_on live);
  }

  -- an answer after steps that answered nothing
  pub NextLine-after : (a b c : LineState R) (result : Result Line LineFault) → Answers state a b []
      → NextLine state b c result → NextLine state a c result
  NextLine-after a b c (Ok answers.Text) ab bc = Answers-trans a b c [] (c.text ∷ []) ab bc
  NextLine-after a b c (Ok answers.Long) ab bc = (bc.0, bc.1, Answers-trans a b c [] (bc.0 ∷ []) ab bc.2)
  NextLine-after a b c (Ok answers.End) ab bc = (Answers-trans a b c [] [] ab bc.0, bc.1)
  NextLine-after a b c (Err causes.Source) ab bc = record {
    takes = Takes-trans a b c ab.takes bc.takes;
    before_end = ab.goes_on bc.before_end;
    none = let sum : c.taken - a.taken ≡ (b.taken - a.taken) + (c.taken - b.taken) =
        omega (arith, ab.takes.taken, bc.takes.taken) in
        ap (ended_within state a) sum ∙ ab.ended bc.before_end (c.taken - b.taken) ∙ bc.none;
  }
  NextLine-after a b c (Err causes.TooLong) ab bc = record {
    limit = bc.limit ∙ ab.takes.limit;
    taken = bc.taken ∙ ab.takes.limit;
    within = omega (arith, ab.takes.taken, ab.takes.limit, bc.within);
    longer = omega (
      arith,
      ab.takes.taken,
      ab.takes.limit,
      ab.takes.fits,
      bc.longer,
      ap length ab.takes.left,
      length-drop (b.taken - a.taken) (left state a),
    );
    left = let sum : (b.taken - a.taken) + ((b.limit - b.taken) + 1) ≡ (a.limit - a.taken) + 1 =
        omega (arith, ab.takes.taken, ab.takes.limit, bc.within) in
        bc.left ∙ ap (drop ((b.limit - b.taken) + 1)) ab.takes.left
        ∙ drop-drop ((b.limit - b.taken) + 1) (b.taken - a.taken) (left state a)
        ∙ ap (λ n. drop n (left state a)) sum;
    before_end = ab.goes_on bc.before_end;
    none = let sum : a.limit - a.taken ≡ (b.taken - a.taken) + (b.limit - b.taken) =
        omega (arith, ab.takes.taken, ab.takes.limit, bc.within) in
        ap (ended_within state a) sum ∙ ab.ended bc.before_end (b.limit - b.taken) ∙ bc.none;
  }

  -- the lines answered before a fault are those that were ended by the bytes taken
  pub answered_at_fault : (a b c : LineState R) (texts : List (List ℕ)) → Answers state a b texts
      → FailsBetween state b c → ended_within state a (c.taken - a.taken) ≡ texts
  answered_at_fault a b c texts ab bc =
      let sum : c.taken - a.taken ≡ (b.taken - a.taken) + (c.taken - b.taken) =
      omega (arith, ab.takes.taken, bc.takes.taken) in
      ap (ended_within state a) sum ∙ ab.ended bc.before_end (c.taken - b.taken)
      ∙ ap (λ (ts : List (List ℕ)). texts ++ ts) bc.none ∙ append-nil texts

  -- the lines answered before the limit are those that were ended by as many bytes as may be taken
  pub answered_at_limit : (a b c : LineState R) (texts : List (List ℕ)) → Answers state a b texts
      → PassesLimit state b c → ended_within state a (a.limit - a.taken) ≡ texts
  answered_at_limit a b c texts ab bc =
      let sum : a.limit - a.taken ≡ (b.taken - a.taken) + (b.limit - b.taken) =
      omega (arith, ab.takes.taken, ab.takes.limit, bc.within) in
      ap (ended_within state a) sum ∙ ab.ended bc.before_end (b.limit - b.taken)
      ∙ ap (λ (ts : List (List ℕ)). texts ++ ts) bc.none ∙ append-nil texts

  -- the lines answered before the end are all
  pub answered_at_end : (a b c : LineState R) (texts : List (List ℕ)) → Answers state a b texts → Answers state b c []
      → to_come state c ≡ [] → lines (to_come state a) ≡ texts
  answered_at_end a b c texts ab bc none =
      ab.lines ∙ ap (λ (ts : List (List ℕ)). texts ++ ts) (bc.lines ∙ ap lines none ∙ lines-none) ∙ append-nil texts

  -- Bytes that were held or taken are passed: so many are held in the end.
  pub record Moves (a b : LineState R) (passed : List ℕ) : Type 0 where
    pub takes : Takes state a b
    pub bytes : a.held ++ take (b.taken - a.taken) (left state a) ≡ passed ++ b.held

  pub Moves-refl : (a : LineState R) → Moves a a []
  Moves-refl a = record {
    takes = Takes-refl a;
    bytes = let none : a.taken - a.taken ≡ 0 = omega arith
        in ap (λ n. a.held ++ take n (left state a)) none ∙ append-nil a.held;
  }

  -- the bytes to come begin with those that are passed
  pub to_come-moves : (a b : LineState R) (passed : List ℕ) → Moves a b passed
      → to_come state a ≡ passed ++ to_come state b
  to_come-moves a b passed moves =
      let count = b.taken - a.taken in
      ap (λ (rest : List ℕ). a.held ++ rest) (sym (take-append-drop count (left state a)))
      ∙ sym (append_assoc a.held (take count (left state a)) (drop count (left state a)))
      ∙ ap (λ (front : List ℕ). front ++ drop count (left state a)) moves.bytes
      ∙ ap (λ (rest : List ℕ). (passed ++ b.held) ++ rest) (sym moves.takes.left)
      ∙ append_assoc passed b.held (left state b)

  pub within-moves : (a b : LineState R) (passed : List ℕ) → Moves a b passed → (count : ℕ)
      → a.held ++ take ((b.taken - a.taken) + count) (left state a) ≡ passed ++ (b.held ++ take count (left state b))
  within-moves a b passed moves count =
      let taken = b.taken - a.taken in
      ap (λ (rest : List ℕ). a.held ++ rest) (take-add taken count (left state a))
      ∙ sym (append_assoc a.held (take taken (left state a)) (take count (drop taken (left state a))))
      ∙ ap (λ (front : List ℕ). front ++ take count (drop taken (left state a))) moves.bytes
      ∙ ap (λ (rest : List ℕ). (passed ++ b.held) ++ take count rest) (sym moves.takes.left)
      ∙ append_assoc passed b.held (take count (left state b))

  -- bytes in front that spell these lines, whatever follows
  pub record Spells (passed : List ℕ) (texts : List (List ℕ)) : Type 0 where
    pub lines : (rest : List ℕ) → lines (passed ++ rest) ≡ texts ++ lines rest
    pub ended : (rest : List ℕ) → ended_lines (passed ++ rest) ≡ texts ++ ended_lines rest

  pub Answers-moves : (a b : LineState R) (passed : List ℕ) (texts : List (List ℕ)) → Moves a b passed
      → Spells passed texts → (b.is_ended ≡ false → a.is_ended ≡ false) → Answers state a b texts
  Answers-moves a b passed texts moves spells goes_on = record {
    takes = moves.takes;
    lines = ap lines (to_come-moves a b passed moves) ∙ spells.lines (to_come state b);
    ended = λ live count. ap ended_lines (within-moves a b passed moves count) ∙ spells.ended _;
    goes_on = goes_on;
  }

  -- one LF
  pub Spells-blank : Spells (10 ∷ []) []
  Spells-blank = record { lines = lines-blank; ended = ended_lines-blank }

  -- a line and its LF
  pub Spells-line : (text : List ℕ) → HasNoEnd text → 0 < length text → Spells (text ++ 10 ∷ []) (text ∷ [])
  Spells-line text plain some = record {
    lines = λ rest. ap lines (append_assoc text (10 ∷ []) rest) ∙ lines-line text rest plain some;
    ended = λ rest. ap ended_lines (append_assoc text (10 ∷ []) rest) ∙ ended_lines-line text rest plain some;
  }

  -- Steps. Bytes that are held are passed.
  pub Moves-drop : (a b : LineState R) (passed : List ℕ) (count : ℕ) → Moves a b passed → (text : List ℕ)
      → Moves a (record b { held = drop count b.held; text = text }) (passed ++ take count b.held)
  Moves-drop a b passed count moves text = record {
    takes = record {
      limit = moves.takes.limit;
      taken = moves.takes.taken;
      fits = moves.takes.fits;
      left = moves.takes.left;
    };
    bytes = moves.bytes ∙ ap (λ (rest : List ℕ). passed ++ rest) (sym (take-append-drop count b.held))
        ∙ sym (append_assoc passed (take count b.held) (drop count b.held));
  }

  -- Bytes are taken.
  pub Takes-adds : (a b : LineState R) (count : ℕ) → IsObservable (state a.source)
      → Adds state a b count → Takes state a b
  Takes-adds a b count observable adds =
      let taken : b.taken ≡ a.taken + count = ap (λ (r : LineState R). r.taken) adds.same in
      let moved = adds.moved observable in
      let size : length adds.piece ≡ b.taken - a.taken = adds.count_is ∙ omega arith in
      record {
        limit = ap (λ (r : LineState R). r.limit) adds.same;
        taken = omega arith;
        fits = omega (arith, ap length moved, length-append adds.piece (left state b));
        left = sym (ap (drop (b.taken - a.taken)) moved ∙ drop_at adds.piece (left state b) (b.taken - a.taken) size);
      }

  pub Moves-adds : (a b c : LineState R) (passed : List ℕ) (count : ℕ) → Moves a b passed
      → IsObservable (state b.source) → Adds state b c count → Moves a c passed
  Moves-adds a b c passed count moves observable adds =
      let taken : c.taken ≡ b.taken + count = ap (λ (r : LineState R). r.taken) adds.same in
      let sum : c.taken - a.taken ≡ (b.taken - a.taken) + count = omega (arith, moves.takes.taken) in
      record {
        takes = Takes-trans a b c moves.takes (Takes-adds b c count observable adds);
        bytes = ap (λ n. a.held ++ take n (left state a)) sum
            ∙ within-moves a b passed moves count
            ∙ ap (λ (xs : List ℕ). passed ++ (b.held ++ take count xs)) (adds.moved observable)
            ∙ ap (λ (xs : List ℕ). passed ++ (b.held ++ xs)) (take_at adds.piece (left state c) count adds.count_is)
            ∙ ap (λ (r : LineState R). passed ++ r.held) (sym adds.same);
      }

  -- nothing but the text shown changes
  pub Answers-shown : (a : LineState R) (text : List ℕ) → Answers state a (record a { text = text }) []
  Answers-shown a text = Answers-moves a (record a { text = text }) [] [] (Moves-drop a a [] 0 (Moves-refl a) text)
      (record { lines = λ rest. refl; ended = λ rest. refl }) (λ e. e)

  -- an empty line is passed
  pub Answers-blank : (a : LineState R) → EndsAt a.held 0 → Answers state a (record a { held = drop 1 a.held }) []
  Answers-blank a ends =
      let first : take 1 a.held ≡ 10 ∷ [] = ap (take 1) ends.parts in
      Answers-moves a (record a { held = drop 1 a.held }) (10 ∷ []) []
      (subst (λ (xs : List ℕ). Moves a (record a { held = drop 1 a.held }) xs) first
      (Moves-drop a a [] 1 (Moves-refl a) a.text))
      Spells-blank (λ e. e)

  -- bytes are taken, and no line is answered
  pub Answers-adds : (a b : LineState R) (count : ℕ) → IsObservable (state a.source)
      → Adds state a b count → Answers state a b []
  Answers-adds a b count observable adds =
      Answers-moves a b [] [] (Moves-adds a a b [] count (Moves-refl a) observable adds)
      (record { lines = λ rest. refl; ended = λ rest. refl })
      (λ live. sym (ap (λ (r : LineState R). r.is_ended) adds.same) ∙ live)

  -- a line that an LF ends
  pub Answers-line : (a b : LineState R) (passed : List ℕ) (place : ℕ) → Moves a b passed → HasNoEnd passed
      → EndsAt b.held place → 0 < length (passed ++ take place b.held) → a.is_ended ≡ false → (text : List ℕ)
      → Answers state a (record b { held = drop (place + 1) b.held; text = text }) ((passed ++ take place b.held) ∷ [])
  Answers-line a b passed place moves plain ends some before_end text =
      let line = passed ++ take place b.held in
      let here : get_or b.held place 0 ≡ 10 = ap (λ (xs : List ℕ). get_or xs place 0) ends.parts
      ∙ get_or_at (take place b.held) 10 (drop (place + 1) b.held) 0 place
      (length-take-le place b.held (omega (arith, ends.within))) in
      let front : take (place + 1) b.held ≡ take place b.held ++ 10 ∷ [] =
      take_more b.held place 0 ends.within ∙ ap (λ c. take place b.held ++ c ∷ []) here in
      let whole : passed ++ take (place + 1) b.held ≡ line ++ 10 ∷ [] =
      ap (λ (xs : List ℕ). passed ++ xs) front ∙ sym (append_assoc passed (take place b.held) (10 ∷ [])) in
      Answers-moves a (record b { held = drop (place + 1) b.held; text = text }) (line ++ 10 ∷ []) (line ∷ [])
      (subst (λ (xs : List ℕ). Moves a (record b { held = drop (place + 1) b.held; text = text }) xs) whole
      (Moves-drop a b passed (place + 1) moves text))
      (Spells-line line (All-append (λ c. (c == 10) ≡ false) passed (take place b.held) plain ends.before) some)
      (λ live. before_end)

  -- the last line, which no LF ends
  pub Answers-last : (a b : LineState R) (passed : List ℕ) → Moves a b passed → left state b ≡ []
      → HasNoEnd (passed ++ b.held) → 0 < length (passed ++ b.held) → (text : List ℕ)
      → Answers state a (record b { held = []; is_ended = true; text = text }) ((passed ++ b.held) ∷ [])
  Answers-last a b passed moves none plain some text = record {
    takes = record {
      limit = moves.takes.limit;
      taken = moves.takes.taken;
      fits = moves.takes.fits;
      left = moves.takes.left;
    };
    lines = ap lines (to_come-moves a b passed moves ∙ ap (λ (xs : List ℕ). passed ++ (b.held ++ xs)) none
        ∙ ap (λ (xs : List ℕ). passed ++ xs) (append-nil b.held))
        ∙ lines-last (passed ++ b.held) plain some
        ∙ ap (λ (ts : List (List ℕ)). (passed ++ b.held) ∷ ts) (sym (ap lines none ∙ lines-none));
    ended = λ live. cc;
    goes_on = λ live. cc;
  }

  -- the end
  pub Answers-end : (a b : LineState R) → Moves a b [] → left state b ≡ [] → b.held ≡ [] → (text : List ℕ)
      → Answers state a (record b { held = []; is_ended = true; text = text }) []
  Answers-end a b moves none empty text = record {
    takes = record {
      limit = moves.takes.limit;
      taken = moves.takes.taken;
      fits = moves.takes.fits;
      left = moves.takes.left;
    };
    lines = ap lines (to_come-moves a b [] moves ∙ ap (λ (xs : List ℕ). xs ++ left state b) empty);
    ended = λ live. cc;
    goes_on = λ live. cc;
  }

  -- a take fails while a line is looked for whose bytes so far hold no LF
  pub FailsBetween-breaks : (a b c : LineState R) (passed : List ℕ) → Moves a b passed → HasNoEnd (passed ++ b.held)
      → a.is_ended ≡ false → IsObservable (state b.source) → Breaks state b c → FailsBetween state a c
  FailsBetween-breaks a b c passed moves plain before_end observable breaks =
      let taken : c.taken ≡ b.taken = ap (λ (r : LineState R). r.taken) breaks.same in
      let none : c.taken - b.taken ≡ 0 = omega arith in
      let same : c.taken - a.taken ≡ b.taken - a.taken = ap (λ n. n - a.taken) taken in
      record {
        takes = Takes-trans a b c moves.takes (record {
          limit = ap (λ (r : LineState R). r.limit) breaks.same;
          taken = omega arith;
          fits = omega arith;
          left = breaks.kept observable ∙ sym (ap (λ n. drop n (left state b)) none);
        });
        before_end = before_end;
        none = ap (ended_within state a) same ∙ ap ended_lines moves.bytes ∙ ended_lines-none (passed ++ b.held) plain;
      }

  -- one more byte comes where as many were taken as may be
  pub PassesLimit-overflows : (a b c : LineState R) (passed : List ℕ) → Moves a b passed → HasNoEnd (passed ++ b.held)
      → a.is_ended ≡ false → IsObservable (state b.source) → Overflows state b c → PassesLimit state a c
  PassesLimit-overflows a b c passed moves plain before_end observable over =
      let byte = over.moved observable in
      let limits : b.limit ≡ a.limit = moves.takes.limit in
      let full : b.taken ≡ b.limit = over.full in
      let same : a.limit - a.taken ≡ b.taken - a.taken = omega arith in
      let size : length (left state b) ≡ suc (length (left state c)) = ap length byte.1 in
      record {
        limit = ap (λ (r : LineState R). r.limit) over.same ∙ limits;
        taken = ap (λ (r : LineState R). r.taken) over.same ∙ full ∙ limits;
        within = omega (arith, moves.takes.taken);
        longer = omega (
          arith,
          moves.takes.taken,
          moves.takes.fits,
          ap length moves.takes.left,
          length-drop (b.taken - a.taken) (left state a),
        );
        left = sym (ap (λ n. drop (n + 1) (left state a)) same ∙ sym (drop-drop 1 (b.taken - a.taken) (left state a))
            ∙ ap (drop 1) (sym moves.takes.left ∙ byte.1));
        before_end = before_end;
        none = ap (ended_within state a) same ∙ ap ended_lines moves.bytes ∙ ended_lines-none (passed ++ b.held) plain;
      }
