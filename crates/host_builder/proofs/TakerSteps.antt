-- What the calls of a taker come to.
use Rattle.std.proofs.Common.{◌≡◌, ℕ, zero, suc, ◌==◌, ◌&&◌, ◌||◌, length, slice_get, Bool, true, false, IsTrue, List}
use Rattle.std.proofs.Common.{[], ◌∷◌, ◌++◌, map, Result, Ok, Err, OnOk, IfErr}
use Rattle.std.proofs.Common.{Option, Some, None, refl, sym, ap, ap₂, subst, ◌∙◌}
use Rattle.std.specs.List.{list_any}
use Rattle.std.specs.Prelude.{IsErrAnd}
use Rattle.store_model.specs.Paths.{Path, Name, same_path}
use Rattle.store_model.specs.Trees.{Tree}
use Rattle.std.proofs.lemmas.List.{append-nil}
use Rattle.dump_streams.specs.Dumps.{DumpStep, step_path, after_step}
use Rattle.dump_streams.specs.Dumps.DumpStep.{Write, Set}
use Rattle.dump_streams.specs.declared.taker.TakerFault.{TakerFault}
use Rattle.dump_streams.specs.declared.taker.TakerFault.TheVariants as faults
use Rattle.host_builder.specs.declared.plan.Made.TheVariants as made
use Rattle.host_builder.specs.declared.plan.Plan.{Plan}
use Rattle.host_builder.specs.declared.plan.Later.{Later}
use Rattle.host_builder.specs.declared.plan.Standing.{Standing}
use Rattle.host_builder.specs.declared.plan.Turn.{Turn}
use Rattle.host_builder.specs.declared.plan.Turn.TheVariants as turns
use Rattle.host_builder.specs.Builders.{BuilderState, Builds, steps_after, faults_after}
use Rattle.host_builder.specs.Turns.{turn_of, made_after, made_behind, if_now, if_later, later_step}
use Rattle.host_builder.specs.Takes.{TookStep, Puts, Turned, Keeps, Breaks, is_noted, is_accounted, StaysAccounted}
use Rattle.host_builder.proofs.Brings.{fails_accounted, makes_accounted, step_passes, set_brings_none}

-- what the exit of a `?` returns
pub told : {T : Type 0} (result : Result T TakerFault) (fault : TakerFault) → IsErrAnd result (λ e. e ≡ fault)
    → result ≡ Err fault
told (Ok value) fault is = absurd is
told (Err e) fault is = ap (λ f. Err f) is

-- the last call that failed, of those that were made before anything was
pub ends_broken : (old new : BuilderState) (before after : Plan) (result : Result (Unit {0}) TakerFault)
    (fault : TakerFault) → IsErrAnd result (λ e. e ≡ fault) → Builds {T = Unit {0}} old new [] (Err fault)
    → after ≡ before → IfErr result (Breaks old new before after)
ends_broken old new before after result fault is builds same =
    subst (λ (r : Result (Unit {0}) TakerFault). IfErr r (Breaks old new before after)) (sym (told result fault is))
    (record {
      wanted = ap (λ (p : Plan). p.wanted) same;
      obstacle = ap (λ (p : Plan). p.obstacle) same;
      observable = builds.carries_out.observable;
      faults = builds.carries_out.faults;
      accounted = λ seen all.
          subst (λ (p : Plan). IsTrue (is_accounted p.stands.items new.holds)) (sym same)
          (builds.carries_out.brings seen (is_noted before.stands.items) all);
    })

module _ (old mid new : BuilderState) (before ended noted after : Plan) (one : Standing)
    (ends : Builds {T = Unit {0}} old mid [] (Ok tt)) (ended_is : ended ≡ before)
    (noted_is : noted.stands.items ≡ ended.stands.items ++ one ∷ []) (wanted_is : noted.wanted ≡ ended.wanted)
    (obstacle_is : noted.obstacle ≡ ended.obstacle) where
  -- what was noted was not made
  pub made_broken : (steps : List DumpStep) (fault : TakerFault) → Builds {T = Unit {0}} mid new steps (Err fault)
      → after.stands.items ≡ ended.stands.items → after.wanted ≡ noted.wanted → after.obstacle ≡ noted.obstacle
      → Breaks old new before after fault
  made_broken steps fault builds back wanted obstacle = record {
    wanted = wanted ∙ wanted_is ∙ ap (λ (p : Plan). p.wanted) ended_is;
    obstacle = obstacle ∙ obstacle_is ∙ ap (λ (p : Plan). p.obstacle) ended_is;
    observable = builds.carries_out.observable ∙ ends.carries_out.observable;
    faults = builds.carries_out.faults ∙ ap (λ (n : ℕ). faults_after {T = Unit {0}} n (Err fault))
        ends.carries_out.faults;
    accounted = fails_accounted old mid new before.stands.items after.stands.items steps tt fault ends builds
        (back ∙ ap (λ (p : Plan). p.stands.items) ended_is);
  }

  -- and what was, was
  module _ (s : DumpStep) (builds : Builds {T = Unit {0}} mid new (s ∷ []) (Ok tt))
      (here : one.path ≡ step_path s) (later_is : noted.later ≡ ended.later) (stands : after.stands ≡ noted.stands)
      (wanted : after.wanted ≡ noted.wanted) (obstacle : after.obstacle ≡ noted.obstacle)
      (later : after.later ≡ noted.later) where
    pub made_puts : Puts old new before after s
    made_puts = record {
      wanted = wanted ∙ wanted_is ∙ ap (λ (p : Plan). p.wanted) ended_is;
      obstacle = obstacle ∙ obstacle_is ∙ ap (λ (p : Plan). p.obstacle) ended_is;
      later = later ∙ later_is ∙ ap (λ (p : Plan). p.later) ended_is;
      observable = builds.carries_out.observable ∙ ends.carries_out.observable;
      faults = builds.carries_out.faults ∙ ends.carries_out.faults;
      left_out = builds.carries_out.left_out ∙ ends.carries_out.left_out;
      holds = λ seen. builds.carries_out.holds (ends.carries_out.observable ∙ seen)
          ∙ ap (λ (t : Tree). after_step t s) (ends.carries_out.holds seen);
      accounted = makes_accounted old mid new before.stands.items after.stands.items one s tt tt ends builds
          (ap (λ v. v.items) stands ∙ noted_is ∙ ap (λ (p : Plan). p.stands.items ++ one ∷ []) ended_is) here;
    }

    -- where it has its turn at once
    pub made_took : turn_of before.wanted before.made s ≡ turns.Now
        → after.made ≡ made_after before.wanted before.made s → TookStep old new before after s
    made_took turn made =
        let puts = made_puts in
        record {
          wanted = puts.wanted;
          obstacle = puts.obstacle;
          observable = puts.observable;
          faults = puts.faults;
          left_out = puts.left_out;
          holds = λ seen. puts.holds seen ∙ sym (ap (λ (t : Turn). steps_after old.holds (if_now t s)) turn);
          later = ap (λ v. map later_step v.items) puts.later
              ∙ sym (append-nil (map later_step before.later.items))
              ∙ sym (ap (λ (t : Turn). map later_step before.later.items ++ if_later t s) turn);
          made = made;
          accounted = puts.accounted;
        }

-- a piece behind another
module _ (old new : BuilderState) (plan : Plan) (s : DumpStep)
    (noted : IsTrue (is_noted plan.stands.items (step_path s)))
  where
    pub wrote_puts : (result : Result (Unit {0}) TakerFault) → Builds old new (s ∷ []) result
        → OnOk result (Puts old new plan plan s)
    wrote_puts (Err fault) builds = tt
    wrote_puts (Ok done) builds = record {
      wanted = refl;
      obstacle = refl;
      later = refl;
      observable = builds.carries_out.observable;
      faults = builds.carries_out.faults;
      left_out = builds.carries_out.left_out;
      holds = λ seen. builds.carries_out.holds seen;
      accounted = λ seen all. subst (λ (t : Tree). IsTrue (is_accounted plan.stands.items t))
          (sym (builds.carries_out.holds seen)) (step_passes (is_noted plan.stands.items) old.holds s noted all);
    }

    pub wrote_broken : (result : Result (Unit {0}) TakerFault) → Builds old new (s ∷ []) result
        → IfErr result (Breaks old new plan plan)
    wrote_broken (Ok done) builds = tt
    wrote_broken (Err fault) builds = record {
      wanted = refl;
      obstacle = refl;
      observable = builds.carries_out.observable;
      faults = builds.carries_out.faults;
      accounted = λ seen all. builds.carries_out.brings seen (is_noted plan.stands.items) all;
    }

-- the last one that was noted
pub last_noted : (stands : List Standing) (k : ℕ) (one : Standing) (path : Path) → slice_get stands k ≡ Some one
    → same_path one.path path ≡ true → IsTrue (is_noted stands path)
last_noted [] k one path at same = cc
last_noted (first ∷ stands) zero one path at same =
    let is : first ≡ one = some_is first one at in
    ap (λ (b : Bool). b || is_noted stands path) (ap (λ (o : Standing). same_path o.path path) is ∙ same)
  where
    some_is : (a b : Standing) → Some a ≡ Some b → a ≡ b
    some_is a b e = cc
last_noted (first ∷ stands) (suc k) one path at same =
    by_test (last_noted stands k one path at same) (same_path first.path path)
  where
    by_test : IsTrue (is_noted stands path) → (b : Bool) → IsTrue (b || is_noted stands path)
    by_test rest true = refl
    by_test rest false = rest

-- an attribute that is not set
pub set_broken : (old new : BuilderState) (plan : Plan) (path : Path) (name : Name) (bytes : List ℕ)
    (result : Result (Unit {0}) TakerFault) → Builds old new (Set path name bytes ∷ []) result
    → IfErr result (Breaks old new plan plan)
set_broken old new plan path name bytes (Ok done) builds = tt
set_broken old new plan path name bytes (Err fault) builds = record {
  wanted = refl;
  obstacle = refl;
  observable = builds.carries_out.observable;
  faults = builds.carries_out.faults;
  accounted = λ seen all. builds.carries_out.brings seen (is_noted plan.stands.items) all;
}

-- one that had its turn
pub turned_took : (old new : BuilderState) (before after : Plan) (path : Path) (name : Name) (bytes : List ℕ)
    (mid : Plan) (turn : Turn) → Turned old new before mid turn (Set path name bytes)
    → turn ≡ turn_of before.wanted before.made (Set path name bytes) → after.wanted ≡ mid.wanted
    → after.obstacle ≡ mid.obstacle → after.later ≡ mid.later → after.stands ≡ mid.stands
    → after.made ≡ made_behind mid.made turn → TookStep old new before after (Set path name bytes)
turned_took old new before after path name bytes mid turn turned is wanted obstacle later stands made = record {
  wanted = wanted ∙ turned.wanted;
  obstacle = obstacle ∙ turned.obstacle;
  observable = turned.observable;
  faults = turned.faults;
  left_out = turned.left_out;
  holds = λ seen. turned.holds seen ∙ ap (λ (t : Turn). steps_after old.holds (if_now t (Set path name bytes))) is;
  later = ap (λ v. map later_step v.items) later ∙ turned.later
      ∙ ap (λ (t : Turn). map later_step before.later.items ++ if_later t (Set path name bytes)) is;
  made = made ∙ ap₂ made_behind turned.made is;
  accounted = λ seen all.
      subst (λ v. IsTrue (is_accounted v.items new.holds)) (sym (stands ∙ turned.stands))
      (by_turn turn (turned.holds seen) all);
}
  where
    by_turn : (t : Turn) → new.holds ≡ steps_after old.holds (if_now t (Set path name bytes))
        → IsTrue (is_accounted before.stands.items old.holds) → IsTrue (is_accounted before.stands.items new.holds)
    by_turn turns.Now holds all = subst (λ (u : Tree). IsTrue (is_accounted before.stands.items u)) (sym holds)
        (set_brings_none old.holds path name bytes (is_noted before.stands.items) all)
    by_turn turns.Later holds all = subst (λ (u : Tree). IsTrue (is_accounted before.stands.items u)) (sym holds) all
    by_turn turns.Never holds all = subst (λ (u : Tree). IsTrue (is_accounted before.stands.items u)) (sym holds) all

-- so it is with bytes that were put into a file
pub puts_took : (old new : BuilderState) (before put after : Plan) (path : Path) (at : ℕ) (bytes : List ℕ)
    → Puts old new before put (Write path at bytes) → after.wanted ≡ put.wanted → after.obstacle ≡ put.obstacle
    → after.later ≡ put.later → after.stands ≡ put.stands
    → after.made ≡ made.File path (at == 0 && length bytes == 0) → TookStep old new before after (Write path at bytes)
puts_took old new before put after path at bytes puts wanted obstacle later stands made_is = record {
  wanted = wanted ∙ puts.wanted;
  obstacle = obstacle ∙ puts.obstacle;
  observable = puts.observable;
  faults = puts.faults;
  left_out = puts.left_out;
  holds = λ seen. puts.holds seen;
  later = ap (λ v. map later_step v.items) (later ∙ puts.later) ∙ sym (append-nil (map later_step before.later.items));
  made = made_is;
  accounted = λ seen all.
      subst (λ v. IsTrue (is_accounted v.items new.holds)) (sym stands) (puts.accounted seen all);
}
