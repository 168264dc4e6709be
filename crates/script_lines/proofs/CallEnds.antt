-- What a call of a reader of lines makes of it, by how the call ends.
use Rattle.std.proofs.Common.{◌≡◌, ℕ, ◌+◌, ◌<◌, ◌≤◌, Bool, true, false, [], length, take, drop, refl, sym, ap, ◌∙◌}
use Rattle.std.proofs.Common.{subst, arith, ◌==◌, Result, Ok, Err, inl, inr, cond, nat_lt}
use Rattle.std.proofs.lemmas.Bool.{cases_eq, eq-eqb, ne_eqb, false≢true}
use Rattle.std.proofs.lemmas.List.{length-drop}
use Rattle.std.proofs.lemmas.Result.{IfOk-weaker}
use Rattle.store_model.specs.Scripts.{line_limit}
use Rattle.script_lines.specs.SourceState.{SourceState}
use Rattle.script_lines.specs.LineState.{LineState, KeepsSource, Adds, Fills, EndsCall, Falls, unread}
use Rattle.script_lines.specs.declared.lines.Line.{Line}
use Rattle.script_lines.specs.declared.lines.Line.TheVariants as answers
use Rattle.script_lines.specs.declared.lines.LineFault.{LineFault}
use Rattle.script_lines.specs.declared.lines.LineFault.TheVariants as causes
use Rattle.script_lines.proofs.Search.{GoesOn, GoesOn-adds, GoesOn-all, PassesLong, long_falls}

-- a line is not the end
line_not_end : (long : Bool) → cond long answers.Long answers.Text ≡ answers.End → ⊥
line_not_end true e = cc
line_not_end false e = cc

-- with it less is to come
falls_by_line : {R : Type 0} (a c : LineState R) (long : Bool) → unread c < unread a
    → Falls a c (cond long answers.Long answers.Text)
falls_by_line a c true less = less
falls_by_line a c false less = less

-- what falls from a later moment on falls from an earlier one on
falls_before : {R : Type 0} (a b c : LineState R) → unread b ≤ unread a → (answer : Line)
    → Falls b c answer → Falls a c answer
falls_before a b c less answers.Text falls = omega arith
falls_before a b c less answers.Long falls = omega arith
falls_before a b c less answers.End falls = omega arith

-- a line or the end is answered
ends_well : {R : Type 0} (a c : LineState R) (answer : Line) → c.is_live ≡ true → c.limit ≡ a.limit → a.taken ≤ c.taken
    → c.taken ≤ c.limit → (answer ≡ answers.End → c.is_ended ≡ true) → Falls a c answer → EndsCall a c (Ok answer)
ends_well a c answer live limit taken in_limit ended falls = record {
  live = (λ _. refl, λ _. live);
  limit = limit;
  taken = taken;
  in_limit = in_limit;
  ended = λ e. ended (cc);
  too_long = λ e. cc;
  falls = falls;
}

module _ {R : Type 0} (state : R → SourceState) where
  -- a line that an LF ends is answered
  pub EndsCall-answer : (a b c : LineState R) (line_len : ℕ) (answer : Line) → GoesOn state a b
      → line_len < length b.held
      → c ≡ record b {
        held = drop (line_len + 1) b.held;
        text = cond (nat_lt line_limit line_len) [] (take line_len b.held);
      }
      → answer ≡ cond (nat_lt line_limit line_len) answers.Long answers.Text → EndsCall a c (Ok answer)
  EndsCall-answer a b c line_len answer goes within same answer_is =
      let held : c.held ≡ drop (line_len + 1) b.held = ap (λ (r : LineState R). r.held) same in
      let limit : c.limit ≡ b.limit = ap (λ (r : LineState R). r.limit) same in
      let taken : c.taken ≡ b.taken = ap (λ (r : LineState R). r.taken) same in
      let less : unread c < unread a = omega (arith, ap length held, length-drop (line_len + 1) b.held, goes.shrinks) in
      ends_well a c answer (ap (λ (r : LineState R). r.is_live) same ∙ goes.live) (limit ∙ goes.limit)
      (omega (arith, goes.taken)) (omega (arith, goes.in_limit))
      (λ e. absurd (line_not_end (nat_lt line_limit line_len) (sym answer_is ∙ e)))
      (subst (λ (r : Line). Falls a c r) (sym answer_is) (falls_by_line a c (nat_lt line_limit line_len) less))

  -- the bytes held are answered as the last line, or the end is
  pub EndsCall-last : (a c d : LineState R) (answer : Line) → GoesOn state a c
      → d ≡ record c { held = []; is_ended = true; text = c.held }
      → answer ≡ cond (length c.held == 0) answers.End answers.Text → EndsCall a d (Ok answer)
  EndsCall-last a c d answer goes same answer_is =
      let held : d.held ≡ [] = ap (λ (r : LineState R). r.held) same in
      let limit : d.limit ≡ c.limit = ap (λ (r : LineState R). r.limit) same in
      let taken : d.taken ≡ c.taken = ap (λ (r : LineState R). r.taken) same in
      let falls : Falls a d answer = elim (cases_eq (length c.held) 0) [
        | inl none ↦
            subst (λ (r : Line). Falls a d r)
            (sym (answer_is ∙ ap (λ t. cond t answers.End answers.Text) (eq-eqb (length c.held) 0 none)))
            (omega (arith, ap length held, goes.shrinks))
        | inr some ↦
            subst (λ (r : Line). Falls a d r)
            (sym (answer_is ∙ ap (λ t. cond t answers.End answers.Text) (ne_eqb (length c.held) 0 some)))
            (omega (arith, ap length held, goes.shrinks))
      ] in
      ends_well a d answer (ap (λ (r : LineState R). r.is_live) same ∙ goes.live) (limit ∙ goes.limit)
      (omega (arith, goes.taken)) (omega (arith, goes.in_limit))
      (λ e. ap (λ (r : LineState R). r.is_ended) same) falls

  -- a take fails
  pub EndsCall-fails : (a b c : LineState R) (fault : LineFault) → GoesOn state a b → Fills state b c (Err fault)
      → EndsCall a c (Err fault)
  EndsCall-fails a b c causes.Source goes breaks =
      let limit : c.limit ≡ b.limit = ap (λ (r : LineState R). r.limit) breaks.same in
      let taken : c.taken ≡ b.taken = ap (λ (r : LineState R). r.taken) breaks.same in
      record {
        live = (
          λ e. absurd (false≢true (sym (ap (λ (r : LineState R). r.is_live) breaks.same) ∙ e)),
          λ e.
              absurd (false≢true e),
        );
        limit = limit ∙ goes.limit;
        taken = omega (arith, goes.taken);
        in_limit = omega (arith, goes.in_limit);
        ended = λ e. cc;
        too_long = λ e. cc;
        falls = tt;
      }
  EndsCall-fails a b c causes.TooLong goes over =
      let limit : c.limit ≡ b.limit = ap (λ (r : LineState R). r.limit) over.same in
      let taken : c.taken ≡ b.taken = ap (λ (r : LineState R). r.taken) over.same in
      record {
        live = (
          λ e. absurd (false≢true (sym (ap (λ (r : LineState R). r.is_live) over.same) ∙ e)),
          λ e.
              absurd (false≢true e),
        );
        limit = limit ∙ goes.limit;
        taken = omega (arith, goes.taken);
        in_limit = omega (arith, goes.in_limit);
        ended = λ e. cc;
        too_long = λ e. taken ∙ over.full ∙ sym limit;
        falls = tt;
      }

  -- a call goes on from a later moment
  pub EndsCall-after : (a b c : LineState R) (result : Result Line LineFault) → GoesOn state a b
      → EndsCall b c result → EndsCall a c result
  EndsCall-after a b c result goes ends = record {
    live = ends.live;
    limit = ends.limit ∙ goes.limit;
    taken = omega (arith, ends.taken, goes.taken);
    in_limit = ends.in_limit;
    ended = ends.ended;
    too_long = ends.too_long;
    falls = IfOk-weaker result (Falls b c) (Falls a c) (falls_before a b c goes.shrinks) ends.falls;
  }

  -- a long line is passed over
  module _ (a b c d : LineState R) (passes : PassesLong state a b)
      (same : c ≡ record b { held = drop (length b.held) b.held }) where
    pub EndsCall-long-fails : (fault : LineFault) → Fills state c d (Err fault) → EndsCall a d (Err fault)
    EndsCall-long-fails fault fills = EndsCall-fails a c d fault (GoesOn-all state a b c passes.goes same) fills

    -- and answered
    module _ (count : ℕ) (keeps : KeepsSource {T = ℕ} (state c.source) (state d.source) (Ok count))
        (adds : Adds state c d count) where
      long_ends : (e : LineState R) → e.is_live ≡ d.is_live → e.limit ≡ d.limit → e.taken ≡ d.taken
          → length e.held ≤ length d.held → EndsCall a e (Ok answers.Long)
      long_ends e live limit taken less =
          let goes = GoesOn-adds state a c d count (GoesOn-all state a b c passes.goes same) keeps adds in
          ends_well a e answers.Long (live ∙ goes.live) (limit ∙ goes.limit) (omega (arith, goes.taken))
          (omega (arith, goes.in_limit)) (λ is. cc)
          (long_falls state a b c d passes same count e adds (omega arith))

      pub EndsCall-long-line : (place : ℕ) (e : LineState R) → e ≡ record d { held = drop place d.held }
          → EndsCall a e (Ok answers.Long)
      EndsCall-long-line place e e_is =
          long_ends e (ap (λ (r : LineState R). r.is_live) e_is) (ap (λ (r : LineState R). r.limit) e_is)
          (ap (λ (r : LineState R). r.taken) e_is)
          (omega (arith, ap (λ (r : LineState R). length r.held) e_is, length-drop place d.held))

      pub EndsCall-long-last : (e : LineState R) → e ≡ record d { held = []; is_ended = true; text = d.held }
          → EndsCall a e (Ok answers.Long)
      EndsCall-long-last e e_is =
          long_ends e (ap (λ (r : LineState R). r.is_live) e_is) (ap (λ (r : LineState R). r.limit) e_is)
          (ap (λ (r : LineState R). r.taken) e_is)
          (omega (arith, ap (λ (r : LineState R). length r.held) e_is))
