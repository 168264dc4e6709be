-- What the loops of a reader of lines keep, and what its answers mean after them.
use Rattle.std.proofs.Common.{◌≡◌, ℕ, ◌+◌, ◌-◌, ◌<◌, ◌≤◌, true, false, IsTrue, List, [], ◌∷◌, ◌++◌, length, take, drop}
use Rattle.std.proofs.Common.{refl, sym, ap, ◌∙◌, subst, arith, ◌==◌, Ok, Err, Some, None, inl, inr, cond, nat_lt}
use Rattle.std.proofs.lemmas.List.{append-nil, append_assoc, length-append, length-drop, length-take-le}
use Rattle.std.proofs.lemmas.List.{take-append-drop, drop-drop, take_at, take_all, drop_all, take_rest, nil_from_length}
use Rattle.std.proofs.lemmas.List.Elements.{All-append}
use Rattle.std.proofs.lemmas.Bool.{cases_lt, cases_eq, lt-ltb, le-ltb, eq-eqb, ne_eqb}
use Rattle.store_model.specs.Scripts.{line_limit}
use Rattle.script_lines.specs.Lines.{HasNoEnd, ended_lines}
use Rattle.script_lines.specs.SourceState.{SourceState, IsObservable}
use Rattle.script_lines.specs.LineState.{LineState, left, to_come, Answers, NextLine, KeepsSource, Adds, Fills, unread}
use Rattle.script_lines.specs.declared.lines.Line.{Line}
use Rattle.script_lines.specs.declared.lines.Line.TheVariants as answers
use Rattle.script_lines.specs.declared.lines.LineFault.{LineFault}
use Rattle.script_lines.specs.declared.lines.LineFault.TheVariants as causes
use Rattle.std.specs.List.{position}
use Rattle.script_lines.proofs.LineLemmas.{EndsAt, ended_lines-blank, ended_lines-none, FindsEnd-position}
use Rattle.script_lines.proofs.StateLemmas.{Moves, take-add, Moves-refl, Moves-drop, Moves-adds, Answers-trans}
use Rattle.script_lines.proofs.StateLemmas.{Answers-adds, Answers-blank, Answers-line, Answers-last, Answers-end}
use Rattle.script_lines.proofs.StateLemmas.{FailsBetween-breaks, PassesLimit-overflows}

-- no LF in either, no LF in both
pub HasNoEnd-append : (xs ys : List ℕ) → HasNoEnd xs → HasNoEnd ys → HasNoEnd (xs ++ ys)
HasNoEnd-append xs ys p q = All-append (λ c. (c == 10) ≡ false) xs ys p q

pub HasNoEnd-nil : (xs : List ℕ) → xs ≡ [] → HasNoEnd xs
HasNoEnd-nil xs empty = λ k d h. absurd (omega (arith, ap length empty))

module _ {R : Type 0} (state : R → SourceState) where
  -- the reader goes on, from one moment to a later one
  pub record GoesOn (a b : LineState R) : Type 0 where
    pub live : b.is_live ≡ true
    pub going : b.is_ended ≡ false
    pub text : b.text ≡ []
    pub limit : b.limit ≡ a.limit
    pub taken : a.taken ≤ b.taken
    pub in_limit : b.taken ≤ b.limit
    pub observable : (state b.source).is_observable ≡ (state a.source).is_observable
    pub faults : (state b.source).faults ≡ (state a.source).faults
    pub shrinks : unread b ≤ unread a

  -- a line is looked for, and no LF stands among the bytes held that were scanned
  pub record Searches (a b : LineState R) (scanned : ℕ) : Type 0 where
    pub goes : GoesOn a b
    pub within : scanned ≤ length b.held
    pub plain : HasNoEnd (take scanned b.held)
    -- nothing was taken yet where a line is held
    pub whole : 0 < length (ended_lines a.held) → (b.source ≡ a.source) × (ended_lines b.held ≡ ended_lines a.held)
    pub answers : IsObservable (state a.source) → Answers state a b []

  -- a long line is passed over
  pub record PassesLong (a b : LineState R) : Type 0 where
    pub goes : GoesOn a b
    pub passed : List ℕ
    pub plain : HasNoEnd (passed ++ b.held)
    pub long : line_limit < length (passed ++ b.held)
    pub moves : IsObservable (state a.source) → Moves state a b passed
    pub shorter : unread b + length passed ≤ unread a

  -- a source tells its bytes as long as it did before
  pub still_observable : (a b : LineState R) → (state b.source).is_observable ≡ (state a.source).is_observable
      → IsObservable (state a.source) → IsObservable (state b.source)
  still_observable a b same observable = subst IsTrue (sym same) observable

  -- bytes are taken by a reader that goes on
  pub GoesOn-adds : (a b c : LineState R) (count : ℕ) → GoesOn a b
      → KeepsSource {T = ℕ} (state b.source) (state c.source) (Ok count) → Adds state b c count → GoesOn a c
  GoesOn-adds a b c count goes keeps adds =
      let taken : c.taken ≡ b.taken + count = ap (λ (r : LineState R). r.taken) adds.same in
      let limit : c.limit ≡ b.limit = ap (λ (r : LineState R). r.limit) adds.same in
      let held : c.held ≡ b.held ++ adds.piece = ap (λ (r : LineState R). r.held) adds.same in
      record {
        live = ap (λ (r : LineState R). r.is_live) adds.same ∙ goes.live;
        going = ap (λ (r : LineState R). r.is_ended) adds.same ∙ goes.going;
        text = ap (λ (r : LineState R). r.text) adds.same;
        limit = limit ∙ goes.limit;
        taken = omega (arith, goes.taken);
        in_limit = omega (arith, adds.in_limit);
        observable = keeps.observable ∙ goes.observable;
        faults = keeps.faults ∙ goes.faults;
        shrinks =
            omega (arith, ap length held, length-append b.held adds.piece, adds.count_is, adds.in_limit, goes.shrinks);
      }

  -- all bytes held are passed
  pub Moves-all : (a b c : LineState R) (passed : List ℕ) → Moves state a b passed
      → c ≡ record b { held = drop (length b.held) b.held } → Moves state a c (passed ++ b.held)
  Moves-all a b c passed moves same =
      subst (λ (r : LineState R). Moves state a r (passed ++ b.held)) (sym same)
      (subst (λ (xs : List ℕ). Moves state a (record b { held = drop (length b.held) b.held }) (passed ++ xs))
      (take_all (length b.held) b.held (omega arith))
      (Moves-drop state a b passed (length b.held) moves b.text))

  pub GoesOn-all : (a b c : LineState R) → GoesOn a b → c ≡ record b { held = drop (length b.held) b.held } → GoesOn a c
  GoesOn-all a b c goes same =
      subst (λ (r : LineState R). GoesOn a r) (sym same)
      (record {
        live = goes.live;
        going = goes.going;
        text = goes.text;
        limit = goes.limit;
        taken = goes.taken;
        in_limit = goes.in_limit;
        observable = goes.observable;
        faults = goes.faults;
        shrinks = omega (arith, length-drop (length b.held) b.held, goes.shrinks);
      })

  -- nothing is held then
  pub none_held : (b c : LineState R) → c ≡ record b { held = drop (length b.held) b.held } → c.held ≡ []
  none_held b c same = ap (λ (r : LineState R). r.held) same ∙ drop_all (length b.held) b.held (omega arith)

  -- so what is held after a take is what was taken
  module _ (a b c d : LineState R) (passes : PassesLong a b)
      (same : c ≡ record b { held = drop (length b.held) b.held }) where
    pub long_passed : line_limit < length (passes.passed ++ b.held)
    long_passed = passes.long

    pub goes_passed : GoesOn a c
    goes_passed = GoesOn-all a b c passes.goes same

    pub moves_passed : IsObservable (state a.source) → Moves state a c (passes.passed ++ b.held)
    moves_passed observable = Moves-all a b c passes.passed (passes.moves observable) same

    pub observable_passed : IsObservable (state a.source) → IsObservable (state c.source)
    observable_passed observable = still_observable a c goes_passed.observable observable

    pub moves_taken : (count : ℕ) → Adds state c d count → IsObservable (state a.source)
        → Moves state a d (passes.passed ++ b.held)
    moves_taken count adds observable = Moves-adds state a c d (passes.passed ++ b.held) count (moves_passed observable)
        (observable_passed observable) adds

    -- what is passed is no longer to come
    pub shorter_taken : (count : ℕ) → Adds state c d count
        → unread d + (length passes.passed + length b.held) ≤ unread a
    shorter_taken count adds =
        let none : c.held ≡ [] = none_held b c same in
        let taken : d.taken ≡ c.taken + count = ap (λ (r : LineState R). r.taken) adds.same in
        let limit : d.limit ≡ c.limit = ap (λ (r : LineState R). r.limit) adds.same in
        let held : d.held ≡ c.held ++ adds.piece = ap (λ (r : LineState R). r.held) adds.same in
        let same_taken : c.taken ≡ b.taken = ap (λ (r : LineState R). r.taken) same in
        let same_limit : c.limit ≡ b.limit = ap (λ (r : LineState R). r.limit) same in
        omega (
          arith,
          ap length held,
          ap length none,
          length-append c.held adds.piece,
          adds.count_is,
          adds.in_limit,
          passes.shorter,
        )

    -- so less is to come once the long line is answered
    pub long_falls : (count : ℕ) (e : LineState R) → Adds state c d count → unread e ≤ unread d → unread e < unread a
    long_falls count e adds less =
        omega (arith, less, shorter_taken count adds, length-append passes.passed b.held, passes.long)

    -- bytes are taken, and no LF stands among them
    pub PassesLong-adds : (count : ℕ) → KeepsSource {T = ℕ} (state c.source) (state d.source) (Ok count)
        → Adds state c d count → HasNoEnd d.held → PassesLong a d
    PassesLong-adds count keeps adds plain = record {
      goes = GoesOn-adds a c d count goes_passed keeps adds;
      passed = passes.passed ++ b.held;
      plain = HasNoEnd-append (passes.passed ++ b.held) d.held passes.plain plain;
      long = omega (arith, passes.long, length-append (passes.passed ++ b.held) d.held);
      moves = moves_taken count adds;
      shorter = omega (arith, shorter_taken count adds, length-append passes.passed b.held);
    }

    -- an LF ends the long line
    pub Long-line : (count place : ℕ) (e : LineState R) → Adds state c d count → EndsAt d.held place
        → a.is_ended ≡ false → e ≡ record d { held = drop (place + 1) d.held } → IsObservable (state a.source)
        → NextLine state a e (Ok answers.Long)
    Long-line count place e adds ends before_end e_is observable =
        let line = (passes.passed ++ b.held) ++ take place d.held in
        let size = length-append (passes.passed ++ b.held) (take place d.held) in (
          line,
          omega (arith, passes.long),
          subst (λ (r : LineState R). Answers state a r (line ∷ [])) (sym e_is)
              (Answers-line state a d (passes.passed ++ b.held) place
              (moves_taken count adds observable) passes.plain ends (omega (arith, passes.long)) before_end d.text),
        )

    -- the end of the source ends it
    pub Long-last : (e : LineState R) → Adds state c d 0 → e ≡ record d { held = []; is_ended = true; text = d.held }
        → IsObservable (state a.source) → NextLine state a e (Ok answers.Long)
    Long-last e adds e_is observable =
        let empty : adds.piece ≡ [] = nil_from_length adds.piece adds.count_is in
        let none : left state d ≡ [] = ap (λ (xs : List ℕ). xs ++ left state d) (sym empty)
        ∙ sym (adds.moved (observable_passed observable)) ∙ adds.at_end (observable_passed observable) refl in
        let held : d.held ≡ [] = ap (λ (r : LineState R). r.held) adds.same
        ∙ ap (λ (xs : List ℕ). xs ++ adds.piece) (none_held b c same) ∙ empty in
        let line = (passes.passed ++ b.held) ++ d.held in
        let size = length-append (passes.passed ++ b.held) d.held in (
          line,
          omega (arith, passes.long),
          subst (λ (r : LineState R). Answers state a r (line ∷ [])) (sym e_is)
              (Answers-last state a d (passes.passed ++ b.held) (moves_taken 0 adds observable) none
              (HasNoEnd-append (passes.passed ++ b.held) d.held passes.plain (HasNoEnd-nil d.held held))
              (omega (arith, passes.long)) d.held),
        )

    -- a take fails
    pub Long-fails : (fault : LineFault) → Fills state c d (Err fault) → a.is_ended ≡ false
        → IsObservable (state a.source) → NextLine state a d (Err fault)
    Long-fails causes.Source breaks before_end observable =
        FailsBetween-breaks state a c d (passes.passed ++ b.held) (moves_passed observable)
        (HasNoEnd-append (passes.passed ++ b.held) c.held passes.plain (HasNoEnd-nil c.held (none_held b c same)))
        before_end (observable_passed observable) breaks
    Long-fails causes.TooLong over before_end observable =
        PassesLimit-overflows state a c d (passes.passed ++ b.held) (moves_passed observable)
        (HasNoEnd-append (passes.passed ++ b.held) c.held passes.plain (HasNoEnd-nil c.held (none_held b c same)))
        before_end (observable_passed observable) over

-- as many bytes are passed as are held
pub pass_all : {R : Type 0} (b c : LineState R) (bytes : List ℕ) → bytes ≡ b.held
    → c ≡ record b { held = drop (length bytes) b.held } → c ≡ record b { held = drop (length b.held) b.held }
pass_all b c bytes same e = e ∙ ap (λ (xs : List ℕ). record b { held = drop (length xs) b.held }) same

-- the first LF of the rest is the first of all, where none stands before the rest
pub EndsAt-drop : (bytes : List ℕ) (scanned place : ℕ) → scanned ≤ length bytes → HasNoEnd (take scanned bytes)
    → EndsAt (drop scanned bytes) place → EndsAt bytes (scanned + place)
EndsAt-drop bytes scanned place fits plain ends =
    let front : take (scanned + place) bytes ≡ take scanned bytes ++ take place (drop scanned bytes) =
    take-add scanned place bytes in
    let sum : scanned + (place + 1) ≡ (scanned + place) + 1 = omega arith in
    record {
      within = omega (arith, ends.within, length-drop scanned bytes);
      before = subst HasNoEnd (sym front)
          (HasNoEnd-append (take scanned bytes) (take place (drop scanned bytes)) plain ends.before);
      parts = sym (take-append-drop scanned bytes)
          ∙ ap (λ (rest : List ℕ). take scanned bytes ++ rest) ends.parts
          ∙ sym (append_assoc (take scanned bytes) (take place (drop scanned bytes))
          (10 ∷ drop (place + 1) (drop scanned bytes)))
          ∙ ap (λ (xs : List ℕ). xs ++ 10 ∷ drop (place + 1) (drop scanned bytes)) (sym front)
          ∙ ap (λ (xs : List ℕ). take (scanned + place) bytes ++ 10 ∷ xs)
          (drop-drop (place + 1) scanned bytes ∙ ap (λ n. drop n bytes) sum);
    }

-- no LF in the rest, none in all, where none stands before the rest
pub HasNoEnd-drop : (bytes : List ℕ) (scanned : ℕ) → HasNoEnd (take scanned bytes)
    → HasNoEnd (drop scanned bytes) → HasNoEnd bytes
HasNoEnd-drop bytes scanned plain rest =
    subst HasNoEnd (take-append-drop scanned bytes)
    (HasNoEnd-append (take scanned bytes) (drop scanned bytes) plain rest)

module _ {R : Type 0} (state : R → SourceState) where
  -- an empty line is passed
  pub Searches-blank : (a b c : LineState R) → Searches state a b 0 → EndsAt b.held 0
      → c ≡ record b { held = drop 1 b.held } → Searches state a c 0
  Searches-blank a b c searches ends same =
      let goes = searches.goes in
      subst (λ (r : LineState R). Searches state a r 0) (sym same) (record {
        goes = record {
          live = goes.live;
          going = goes.going;
          text = goes.text;
          limit = goes.limit;
          taken = goes.taken;
          in_limit = goes.in_limit;
          observable = goes.observable;
          faults = goes.faults;
          shrinks = omega (arith, length-drop 1 b.held, goes.shrinks);
        };
        within = omega arith;
        plain = λ k d h. absurd (omega arith);
        whole = λ some. let before = searches.whole some
            in (before.0, sym (ended_lines-blank (drop 1 b.held)) ∙ sym (ap ended_lines ends.parts) ∙ before.1);
        answers = λ observable. Answers-trans state a b (record b { held = drop 1 b.held }) [] []
            (searches.answers observable) (Answers-blank state b ends);
      })

  -- a line that an LF ends is answered
  pub NextLine-answer : (b c : LineState R) (line_len : ℕ) (answer : Line) → EndsAt b.held line_len
      → 0 < line_len → b.is_ended ≡ false
      → c ≡ record b {
        held = drop (line_len + 1) b.held;
        text = cond (nat_lt line_limit line_len) [] (take line_len b.held);
      }
      → answer ≡ cond (nat_lt line_limit line_len) answers.Long answers.Text → NextLine state b c (Ok answer)
  NextLine-answer b c line_len answer ends some going same answer_is =
      let size : length (take line_len b.held) ≡ line_len =
      length-take-le line_len b.held (omega (arith, ends.within)) in
      let line : (text : List ℕ) → Answers state b (record b { held = drop (line_len + 1) b.held; text = text })
      (take line_len b.held ∷ []) =
      Answers-line state b b [] line_len (Moves-refl state b) (HasNoEnd-nil [] refl) ends (omega arith) going in
      elim (cases_lt line_limit line_len) [
        | inl long ↦
            let yes = lt-ltb line_limit line_len long in
            let answer_long : answer ≡ answers.Long = answer_is ∙ ap (λ t. cond t answers.Long answers.Text) yes in
            subst (λ (r : Line). NextLine state b c (Ok r)) (sym answer_long) (
              take line_len b.held,
              omega arith,
              subst (λ (r : LineState R). Answers state b r (take line_len b.held ∷ [])) (sym same) (line _),
            )
        | inr short ↦
            let no = le-ltb line_limit line_len short in
            let answer_text : answer ≡ answers.Text = answer_is ∙ ap (λ t. cond t answers.Long answers.Text) no in
            let text_is : c.text ≡ take line_len b.held =
            ap (λ (r : LineState R). r.text) same ∙ ap (λ t. cond {A = List ℕ} t [] (take line_len b.held)) no in
            subst (λ (r : Line). NextLine state b c (Ok r)) (sym answer_text)
            (subst (λ (ts : List (List ℕ)). Answers state b c ts) (ap (λ (t : List ℕ). t ∷ []) (sym text_is))
            (subst (λ (r : LineState R). Answers state b r (take line_len b.held ∷ [])) (sym same) (line _)))
      ]

  -- the last line, or the end
  pub NextLine-last : (b c d : LineState R) (answer : Line) → HasNoEnd b.held → Adds state b c 0
      → d ≡ record c { held = []; is_ended = true; text = c.held }
      → answer ≡ cond (length c.held == 0) answers.End answers.Text → IsObservable (state b.source)
      → NextLine state b d (Ok answer)
  NextLine-last b c d answer plain adds same answer_is observable =
      let empty : adds.piece ≡ [] = nil_from_length adds.piece adds.count_is in
      let none : left state c ≡ [] = ap (λ (xs : List ℕ). xs ++ left state c) (sym empty) ∙ sym (adds.moved observable)
      ∙ adds.at_end observable refl in
      let held : c.held ≡ b.held = ap (λ (r : LineState R). r.held) adds.same
      ∙ ap (λ (xs : List ℕ). b.held ++ xs) empty ∙ append-nil b.held in
      let moves : Moves state b c [] = Moves-adds state b b c [] 0 (Moves-refl state b) observable adds in
      elim (cases_eq (length c.held) 0) [
        | inl zero_len ↦
            let answer_end : answer ≡ answers.End =
            answer_is ∙ ap (λ t. cond t answers.End answers.Text) (eq-eqb (length c.held) 0 zero_len) in
            subst (λ (r : Line). NextLine state b d (Ok r)) (sym answer_end) (
              subst (λ (r : LineState R). Answers state b r []) (sym same)
                  (Answers-end state b c moves none (nil_from_length c.held zero_len) c.held),
              ap (to_come state) same ∙ none,
            )
        | inr some ↦
            let answer_text : answer ≡ answers.Text =
            answer_is ∙ ap (λ t. cond t answers.End answers.Text) (ne_eqb (length c.held) 0 some) in
            let text_is : d.text ≡ c.held = ap (λ (r : LineState R). r.text) same in
            subst (λ (r : Line). NextLine state b d (Ok r)) (sym answer_text)
            (subst (λ (ts : List (List ℕ)). Answers state b d ts) (ap (λ (t : List ℕ). t ∷ []) (sym text_is))
            (subst (λ (r : LineState R). Answers state b r (c.held ∷ [])) (sym same)
            (Answers-last state b c [] moves none (subst HasNoEnd (sym held) plain) (omega arith) c.held)))
      ]

  -- a take fails
  pub NextLine-fails : (b c : LineState R) (fault : LineFault) → HasNoEnd b.held → b.is_ended ≡ false
      → Fills state b c (Err fault) → IsObservable (state b.source) → NextLine state b c (Err fault)
  NextLine-fails b c causes.Source plain going breaks observable =
      FailsBetween-breaks state b b c [] (Moves-refl state b) plain going observable breaks
  NextLine-fails b c causes.TooLong plain going over observable =
      PassesLimit-overflows state b b c [] (Moves-refl state b) plain going observable over

  -- bytes are taken, and the search goes on behind those that were held
  pub Searches-adds : (a b c : LineState R) (scanned count : ℕ) → Searches state a b scanned → HasNoEnd b.held
      → KeepsSource {T = ℕ} (state b.source) (state c.source) (Ok count) → Adds state b c count
      → Searches state a c (length b.held)
  Searches-adds a b c scanned count searches plain keeps adds =
      let held : c.held ≡ b.held ++ adds.piece = ap (λ (r : LineState R). r.held) adds.same in
      record {
        goes = GoesOn-adds state a b c count searches.goes keeps adds;
        within = omega (arith, ap length held, length-append b.held adds.piece);
        plain = subst HasNoEnd (sym (ap (take (length b.held)) held ∙ take_at b.held adds.piece (length b.held) refl))
            plain;
        whole = λ some.
            absurd (omega (arith, some, ap length (searches.whole some).1, ap length (ended_lines-none b.held plain)));
        answers = λ observable. Answers-trans state a b c [] [] (searches.answers observable)
            (Answers-adds state b c count (still_observable state a b searches.goes.observable observable) adds);
      }

  -- where no whole line is held, none was held from the start on
  pub none_whole : (a b : LineState R) (scanned : ℕ) → Searches state a b scanned → HasNoEnd b.held
      → ¬ (0 < length (ended_lines a.held))
  none_whole a b scanned searches plain some =
      absurd (omega (arith, some, ap length (searches.whole some).1, ap length (ended_lines-none b.held plain)))

-- what is found in the rest
pub rest_is : (bytes held : List ℕ) (scanned : ℕ) → bytes ≡ held
    → take (length bytes - scanned) (drop scanned bytes) ≡ drop scanned held
rest_is bytes held scanned same = take_rest bytes scanned ∙ ap (drop scanned) same

-- what is found in the rest is the first LF of all bytes held
pub found_at : (bytes held : List ℕ) (scanned place : ℕ) → bytes ≡ held → scanned ≤ length held
    → HasNoEnd (take scanned held) → Some place
    ≡ position (λ x. x == 10) (take (length bytes - scanned) (drop scanned bytes)) → EndsAt held (scanned + place)
found_at bytes held scanned place same within plain found =
    EndsAt-drop held scanned place within plain
    (FindsEnd-position (drop scanned held) (Some place)
    (found ∙ ap (λ (xs : List ℕ). position (λ x. x == 10) xs) (rest_is bytes held scanned same)))

-- where none is found in the rest, none stands among them
pub none_found : (bytes held : List ℕ) (scanned : ℕ) → bytes ≡ held → HasNoEnd (take scanned held)
    → None ≡ position (λ x. x == 10) (take (length bytes - scanned) (drop scanned bytes)) → HasNoEnd held
none_found bytes held scanned same plain none =
    HasNoEnd-drop held scanned plain
    (FindsEnd-position (drop scanned held) None
    (none ∙ ap (λ (xs : List ℕ). position (λ x. x == 10) xs) (rest_is bytes held scanned same)))
