-- Steps one after another.
use Rattle.std.proofs.Common.{◌≡◌, ℕ, ◌+◌, Bool, true, false, not, ◌&&◌, ◌||◌, cond, if◌then◌else◌, IsTrue, List, []}
use Rattle.std.proofs.Common.{◌∷◌}
use Rattle.std.proofs.Common.{◌++◌, map, length, Option, None, Result, Ok, Err, OnOk, IfErr, refl, sym, ap, ap₂, subst}
use Rattle.std.proofs.Common.{◌∙◌, length-append}
use Rattle.std.specs.List.{filter, list_all}
use Rattle.std.proofs.lemmas.List.{append-nil, append_assoc}
use Rattle.std.proofs.lemmas.List.Elements.{filter-append}
use Rattle.store_base.specs.Counts.{raised}
use Rattle.store_model.specs.Paths.{Path}
use Rattle.store_model.specs.Trees.{Tree}
use Rattle.host_names.specs.Reading.{has_host_text}
use Rattle.dump_streams.specs.Dumps.{DumpStep, after_step, step_path}
use Rattle.dump_streams.specs.declared.taker.TakerFault.{TakerFault}
use Rattle.host_builder.specs.declared.attribute.Wanted.{Wanted}
use Rattle.host_builder.specs.declared.plan.Made.{Made}
use Rattle.host_builder.specs.declared.plan.Plan.{Plan}
use Rattle.host_builder.specs.declared.plan.Turn.{Turn}
use Rattle.host_builder.specs.declared.plan.Standing.{Standing}
use Rattle.host_builder.specs.Builders.{BuilderState, steps_after, faults_after, risen, told_of_one}
use Rattle.host_builder.specs.Passing.{is_passed, passes_step, passed, begins, is_left_begin, left_begins}
use Rattle.host_builder.specs.Turns.{turn_of, made_after, if_now, if_later, steps_now, steps_later, made_by, later_step}
use Rattle.host_builder.specs.Takes.{TookSteps, TookStep, Looked, Breaks, BreaksStep, WhyBroken, is_accounted}
use Rattle.host_builder.proofs.Counting.{risen_one}

pub steps_after-append : (t : Tree) (first more : List DumpStep)
    → steps_after t (first ++ more) ≡ steps_after (steps_after t first) more
steps_after-append t [] more = refl
steps_after-append t (s ∷ first) more = steps_after-append (after_step t s) first more

-- steps behind others
module _ (wanted : Wanted) where
  pub now_parts : (last : Made) (first more : List DumpStep) → steps_now wanted last (first ++ more)
      ≡ steps_now wanted last first ++ steps_now wanted (made_by wanted last first) more
  now_parts last [] more = refl
  now_parts last (s ∷ first) more =
      let here = if_now (turn_of wanted last s) s in
      let next = made_after wanted last s in
      ap (λ (rest : List DumpStep). here ++ rest) (now_parts next first more)
      ∙ sym (append_assoc here (steps_now wanted next first) (steps_now wanted (made_by wanted next first) more))

  pub later_parts : (last : Made) (first more : List DumpStep) → steps_later wanted last (first ++ more)
      ≡ steps_later wanted last first ++ steps_later wanted (made_by wanted last first) more
  later_parts last [] more = refl
  later_parts last (s ∷ first) more =
      let here = if_later (turn_of wanted last s) s in
      let next = made_after wanted last s in
      ap (λ (rest : List DumpStep). here ++ rest) (later_parts next first more)
      ∙ sym (append_assoc here (steps_later wanted next first) (steps_later wanted (made_by wanted next first) more))

  pub made_parts : (last : Made) (first more : List DumpStep)
      → made_by wanted last (first ++ more) ≡ made_by wanted (made_by wanted last first) more
  made_parts last [] more = refl
  made_parts last (s ∷ first) more = made_parts (made_after wanted last s) first more

  -- one more step
  now_more : (last : Made) (steps : List DumpStep) (s : DumpStep) → steps_now wanted last (steps ++ s ∷ [])
      ≡ steps_now wanted last steps ++ if_now (turn_of wanted (made_by wanted last steps) s) s
  now_more last steps s = now_parts last steps (s ∷ [])
      ∙ ap (λ (rest : List DumpStep). steps_now wanted last steps ++ rest)
      (append-nil (if_now (turn_of wanted (made_by wanted last steps) s) s))

  later_more : (last : Made) (steps : List DumpStep) (s : DumpStep) → steps_later wanted last (steps ++ s ∷ [])
      ≡ steps_later wanted last steps ++ if_later (turn_of wanted (made_by wanted last steps) s) s
  later_more last steps s = later_parts last steps (s ∷ [])
      ∙ ap (λ (rest : List DumpStep). steps_later wanted last steps ++ rest)
      (append-nil (if_later (turn_of wanted (made_by wanted last steps) s) s))

-- what waits behind one more step
waiting_more : (first kept : List DumpStep) (turn here : Turn) (all : List DumpStep) (s : DumpStep)
    (was is : List DumpStep) → is ≡ was ++ if_later turn s → was ≡ first ++ kept → turn ≡ here
    → all ≡ kept ++ if_later here s → is ≡ first ++ all
waiting_more first kept turn here all s was is now_is was_is turn_is all_is =
    let step : was ++ if_later turn s ≡ (first ++ kept) ++ if_later turn s =
    ap (λ (front : List DumpStep). front ++ if_later turn s) was_is in
    let same : first ++ (kept ++ if_later turn s) ≡ first ++ (kept ++ if_later here s) =
    ap (λ (t : Turn). first ++ (kept ++ if_later t s)) turn_is in
    let whole : first ++ (kept ++ if_later here s) ≡ first ++ all =
    ap (λ (rest : List DumpStep). first ++ rest) (sym all_is) in
    now_is ∙ step ∙ append_assoc first kept (if_later turn s) ∙ same ∙ whole

-- ---- steps that pass, and steps that are left out

or_true : (b : Bool) → (b || true) ≡ true
or_true true = refl
or_true false = refl

and_false : (b : Bool) → (b && false) ≡ false
and_false true = refl
and_false false = refl

and_true : (b : Bool) → (b && true) ≡ b
and_true true = refl
and_true false = refl

one_kept : {X : Type 0} (test : X → Bool) (xs : List X) (x : X) → test x ≡ true
    → filter test (xs ++ x ∷ []) ≡ filter test xs ++ x ∷ []
one_kept test xs x is = filter-append test xs (x ∷ [])
    ∙ ap (λ b. filter test xs ++ cond b (x ∷ []) []) is

one_dropped : {X : Type 0} (test : X → Bool) (xs : List X) (x : X) → test x ≡ false
    → filter test (xs ++ x ∷ []) ≡ filter test xs
one_dropped test xs x is = filter-append test xs (x ∷ [])
    ∙ ap (λ b. filter test xs ++ cond b (x ∷ []) []) is ∙ append-nil (filter test xs)

all_and_one : {X : Type 0} (test : X → Bool) (xs : List X) (x : X) → IsTrue (list_all test xs) → test x ≡ true
    → IsTrue (list_all test (xs ++ x ∷ []))
all_and_one test [] x all is = ap (λ b. b && true) is
all_and_one test (y ∷ xs) x all is = by_test (λ rest. all_and_one test xs x rest is) (test y) all
  where
    by_test : (IsTrue (list_all test xs) → IsTrue (list_all test (xs ++ x ∷ []))) → (b : Bool)
        → IsTrue (b && list_all test xs) → IsTrue (b && list_all test (xs ++ x ∷ []))
    by_test more true all = more all
    by_test more false all = all

module _ (wanted : Wanted) (steps : List DumpStep) (s : DumpStep) where
  module _ (text : has_host_text (step_path s) ≡ true) where
    passes : passes_step wanted s ≡ true
    passes = ap (λ b. not wanted.skips || b) text ∙ or_true (not wanted.skips)

    passed_more : passed wanted (steps ++ s ∷ []) ≡ passed wanted steps ++ s ∷ []
    passed_more = one_kept (passes_step wanted) steps s passes

    begins_same : left_begins wanted (steps ++ s ∷ []) ≡ left_begins wanted steps
    begins_same = one_dropped (is_left_begin wanted) steps s
        (ap (λ b. begins s && not b) passes ∙ and_false (begins s))

  module _ (text : has_host_text (step_path s) ≡ false) (skips : wanted.skips ≡ true) where
    stays : passes_step wanted s ≡ false
    stays = ap₂ (λ a b. not a || b) skips text

    passed_same : passed wanted (steps ++ s ∷ []) ≡ passed wanted steps
    passed_same = one_dropped (passes_step wanted) steps s stays

    begins_first : begins s ≡ true → left_begins wanted (steps ++ s ∷ []) ≡ left_begins wanted steps ++ s ∷ []
    begins_first is = one_kept (is_left_begin wanted) steps s (ap₂ (λ a b. a && not b) is stays)

    begins_later : begins s ≡ false → left_begins wanted (steps ++ s ∷ []) ≡ left_begins wanted steps
    begins_later is = one_dropped (is_left_begin wanted) steps s (ap (λ a. a && not (passes_step wanted s)) is)

-- ---- one more step

-- one that has a path on the host was taken
pub took_more : (old now new : BuilderState) (before plan after : Plan) (steps : List DumpStep) (s : DumpStep)
    → has_host_text (step_path s) ≡ true → TookSteps old now before plan steps → TookStep now new plan after s
    → TookSteps old new before after (steps ++ s ∷ [])
took_more old now new before plan after steps s text took more =
    let wanted = before.wanted in
    let ps = passed wanted steps in
    let last = made_by wanted before.made ps in
    let all : passed wanted (steps ++ s ∷ []) ≡ ps ++ s ∷ [] = passed_more wanted steps s text in
    let turn_is : turn_of plan.wanted plan.made s ≡ turn_of wanted last s =
    ap (λ (w : Wanted). turn_of w plan.made s) took.wanted ∙ ap (λ (m : Made). turn_of wanted m s) took.made in
    record {
      wanted = more.wanted ∙ took.wanted;
      obstacle = more.obstacle ∙ took.obstacle;
      observable = more.observable ∙ took.observable;
      faults = more.faults ∙ took.faults;
      left_out = more.left_out ∙ took.left_out
          ∙ ap (λ (ss : List DumpStep). risen old.left_out (length ss)) (sym (begins_same wanted steps s text));
      named = λ skips. all_and_one (λ s. has_host_text (step_path s)) steps s (took.named skips) text;
      holds = λ seen.
          more.holds (took.observable ∙ seen)
          ∙ ap (λ (t : Tree). steps_after t (if_now (turn_of plan.wanted plan.made s) s)) (took.holds seen)
          ∙ sym (steps_after-append old.holds (steps_now wanted before.made ps)
          (if_now (turn_of plan.wanted plan.made s) s))
          ∙ ap (λ turn. steps_after old.holds (steps_now wanted before.made ps ++ if_now turn s)) turn_is
          ∙ ap (steps_after old.holds) (sym (now_more wanted before.made ps s))
          ∙ ap (λ (ss : List DumpStep). steps_after old.holds (steps_now wanted before.made ss)) (sym all);
      later = waiting_more (map later_step before.later.items) (steps_later wanted before.made ps)
          (turn_of plan.wanted plan.made s) (turn_of wanted last s) (steps_later wanted before.made (ps ++ s ∷ []))
          s (map later_step plan.later.items) (map later_step after.later.items) more.later took.later turn_is
          (later_more wanted before.made ps s)
          ∙ ap (λ (ss : List DumpStep). map later_step before.later.items ++ steps_later wanted before.made ss)
          (sym all);
      made =
          more.made
          ∙ ap (λ (w : Wanted). made_after w plan.made s) took.wanted
          ∙ ap (λ (m : Made). made_after wanted m s) took.made
          ∙ sym (made_parts wanted before.made ps (s ∷ []))
          ∙ ap (made_by wanted before.made) (sym all);
      accounted = λ seen all. more.accounted (took.observable ∙ seen) (took.accounted seen all);
    }

-- what a step is that was looked at
module _ (old now mid : BuilderState) (before plan looked : Plan) (s : DumpStep) where
  held_same : (out : Bool) → mid ≡ (if out then told_of_one now else now) → mid.holds ≡ now.holds
  held_same true is = ap (λ (b : BuilderState). b.holds) is
  held_same false is = ap (λ (b : BuilderState). b.holds) is

  observable_same : (out : Bool) → mid ≡ (if out then told_of_one now else now)
      → mid.is_observable ≡ now.is_observable
  observable_same true is = ap (λ (b : BuilderState). b.is_observable) is
  observable_same false is = ap (λ (b : BuilderState). b.is_observable) is

  faults_same : (out : Bool) → mid ≡ (if out then told_of_one now else now) → mid.faults ≡ now.faults
  faults_same true is = ap (λ (b : BuilderState). b.faults) is
  faults_same false is = ap (λ (b : BuilderState). b.faults) is

  count_by : (wanted : Wanted) (steps : List DumpStep) (b : Bool) → begins s ≡ b
      → mid ≡ (if b then told_of_one now else now) → has_host_text (step_path s) ≡ false → wanted.skips ≡ true
      → now.left_out ≡ risen old.left_out (length (left_begins wanted steps))
      → mid.left_out ≡ risen old.left_out (length (left_begins wanted (steps ++ s ∷ [])))
  count_by wanted steps true first is text skips was =
      ap (λ (b : BuilderState). b.left_out) is ∙ ap raised was
      ∙ risen_one old.left_out (length (left_begins wanted steps))
      ∙ ap (risen old.left_out) (sym (length-append (left_begins wanted steps) (s ∷ [])))
      ∙ ap (λ (ss : List DumpStep). risen old.left_out (length ss))
      (sym (begins_first wanted steps s text skips first))
  count_by wanted steps false later is text skips was =
      ap (λ (b : BuilderState). b.left_out) is ∙ was
      ∙ ap (λ (ss : List DumpStep). risen old.left_out (length ss))
      (sym (begins_later wanted steps s text skips later))

  -- one that is left out
  pub took_left : (steps : List DumpStep) → TookSteps old now before plan steps
      → Looked now mid plan looked s true → TookSteps old mid before looked (steps ++ s ∷ [])
  took_left steps took out =
      let wanted = before.wanted in
      let skips : wanted.skips ≡ true =
      sym (ap (λ (w : Wanted). w.skips) took.wanted) ∙ out.skips refl in
      let all : passed wanted (steps ++ s ∷ []) ≡ passed wanted steps =
      passed_same wanted steps s out.text skips in
      let plan_is : looked ≡ plan = out.plan in
      record {
        wanted = ap (λ (p : Plan). p.wanted) plan_is ∙ took.wanted;
        obstacle = ap (λ (p : Plan). p.obstacle) plan_is ∙ took.obstacle;
        observable = observable_same (begins s) out.state ∙ took.observable;
        faults = faults_same (begins s) out.state ∙ took.faults;
        left_out = count_by wanted steps (begins s) refl out.state out.text skips took.left_out;
        named = λ none. cc;
        holds = λ seen. held_same (begins s) out.state ∙ took.holds seen
            ∙ ap (λ (ss : List DumpStep). steps_after old.holds (steps_now wanted before.made ss)) (sym all);
        later = ap (λ (p : Plan). map later_step p.later.items) plan_is ∙ took.later
            ∙ ap (λ (ss : List DumpStep). map later_step before.later.items ++ steps_later wanted before.made ss)
            (sym all);
        made = ap (λ (p : Plan). p.made) plan_is ∙ took.made ∙ ap (made_by wanted before.made) (sym all);
        accounted = λ seen all.
            subst (λ (p : Plan). IsTrue (is_accounted p.stands.items mid.holds)) (sym plan_is)
            (subst (λ (t : Tree). IsTrue (is_accounted plan.stands.items t)) (sym (held_same (begins s) out.state))
            (took.accounted seen all));
      }

-- so it was where the call that takes it ends well
pub took_on : {E : Type 0} (old now mid new : BuilderState) (before plan looked after : Plan) (steps : List DumpStep)
    (here s : DumpStep) (result : Result (Unit {0}) E) → here ≡ s → TookSteps old now before plan steps
    → Looked now mid plan looked s false → OnOk result (TookStep mid new looked after here)
    → OnOk result (TookSteps old new before after (steps ++ s ∷ []))
took_on old now mid new before plan looked after steps here s (Ok value) same took out more =
    took_more old now new before plan after steps s out.text took
    (subst (λ (p : Plan). TookStep now new p after s) out.plan
    (subst (λ (b : BuilderState). TookStep b new looked after s) out.state
    (subst (TookStep mid new looked after) same more)))
took_on old now mid new before plan looked after steps here s (Err fault) same took out more = tt

-- and where it fails
pub broke_on : {T : Type 0} (now mid new : BuilderState) (plan looked after : Plan) (s : DumpStep)
    (result : Result T TakerFault) → Looked now mid plan looked s false → IfErr result (Breaks mid new looked after)
    → IfErr result (BreaksStep now new plan after s)
broke_on now mid new plan looked after s (Ok value) out broken = tt
broke_on now mid new plan looked after s (Err fault) out broken =
    let breaks : Breaks now new plan after fault =
    subst (λ (p : Plan). Breaks now new p after fault) out.plan
    (subst (λ (b : BuilderState). Breaks b new looked after fault) out.state broken) in
    record {
      wanted = breaks.wanted;
      observable = breaks.observable;
      accounted = breaks.accounted;
      why = λ none. subst (WhyBroken now new plan s fault) (sym (breaks.obstacle ∙ none)) breaks.faults;
    }
