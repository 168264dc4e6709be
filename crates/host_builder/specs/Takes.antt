-- What a taker over a builder does.
use Rattle.std.specs.Prelude.{◌≡◌, ℕ, Bool, true, false, not, ◌&&◌, if◌then◌else◌, IsTrue, List, [], ◌∷◌, ◌++◌, map}
use Rattle.std.specs.Prelude.{length}
use Rattle.std.specs.Prelude.{Option, Some, None, Result, Ok, Err, OnOk}
use Rattle.std.specs.List.{list_all, list_any}
use Rattle.store_model.specs.Paths.{Path, same_path}
use Rattle.store_model.specs.Trees.{Tree, without}
use Rattle.host_names.specs.Reading.{has_host_text}
use Rattle.dump_streams.specs.Dumps.{DumpStep, after_step, step_path}
use Rattle.dump_streams.specs.declared.taker.TakerFault.{TakerFault}
use Rattle.dump_streams.specs.declared.taker.TakerFault.TheVariants as faults
use Rattle.host_builder.specs.declared.plan.Plan.{Plan}
use Rattle.host_builder.specs.declared.plan.Later.{Later}
use Rattle.host_builder.specs.declared.plan.Standing.{Standing}
use Rattle.host_builder.specs.declared.plan.Turn.{Turn}
use Rattle.host_builder.specs.declared.plan.Made.TheVariants as made
use Rattle.host_builder.specs.declared.attribute.Links.{Links}
use Rattle.host_builder.specs.declared.attribute.Links.TheVariants as links
use Rattle.host_builder.specs.Builders.{BuilderState, IsObservable, BringsNone, steps_after, faults_after, risen}
use Rattle.host_builder.specs.Builders.{told_of_one}
use Rattle.host_builder.specs.Passing.{passed, begins, left_begins}
use Rattle.host_builder.specs.Turns.{turn_of, made_after, if_now, if_later, steps_now, steps_later, made_by, later_step}
use Rattle.host_builder.specs.Turns.{link_steps, link_paths, time_steps}

-- ---- what was made

-- whether a path is among those at which something was made
abbrev pub is_noted : List Standing → Path → Bool
is_noted stands path = list_any (λ one. same_path one.path path) stands

-- whether each path of a tree is
abbrev pub is_accounted : List Standing → Tree → Bool
is_accounted stands t = list_all (λ e. is_noted stands e.0) t

-- Where all that stands before is noted, so is all that stands after.
abbrev pub StaysAccounted : BuilderState → BuilderState → List Standing → List Standing → Type 0
StaysAccounted old new before after = IsObservable old → IsTrue (is_accounted before old.holds)
    → IsTrue (is_accounted after new.holds)

-- ---- steps

-- From the first moment to the second just those of the steps were carried out that are carried out at once; those
-- that wait are kept, behind those that waited. Of what has no path on the host it was told that it is left out.
pub record TookSteps (old new : BuilderState) (before after : Plan) (steps : List DumpStep) : Type 0 where
  pub wanted : after.wanted ≡ before.wanted
  pub obstacle : after.obstacle ≡ before.obstacle
  pub observable : new.is_observable ≡ old.is_observable
  pub faults : new.faults ≡ old.faults
  pub left_out : new.left_out ≡ risen old.left_out (length (left_begins before.wanted steps))
  pub named : before.wanted.skips ≡ false → IsTrue (list_all (λ s. has_host_text (step_path s)) steps)
  pub holds : IsObservable old
      → new.holds ≡ steps_after old.holds (steps_now before.wanted before.made (passed before.wanted steps))
  pub later : map later_step after.later.items
      ≡ map later_step before.later.items ++ steps_later before.wanted before.made (passed before.wanted steps)
  pub made : after.made ≡ made_by before.wanted before.made (passed before.wanted steps)
  pub accounted : StaysAccounted old new before.stands.items after.stands.items

-- one step was taken that has a path on the host
pub record TookStep (old new : BuilderState) (before after : Plan) (s : DumpStep) : Type 0 where
  pub wanted : after.wanted ≡ before.wanted
  pub obstacle : after.obstacle ≡ before.obstacle
  pub observable : new.is_observable ≡ old.is_observable
  pub faults : new.faults ≡ old.faults
  pub left_out : new.left_out ≡ old.left_out
  pub holds : IsObservable old
      → new.holds ≡ steps_after old.holds (if_now (turn_of before.wanted before.made s) s)
  pub later : map later_step after.later.items
      ≡ map later_step before.later.items ++ if_later (turn_of before.wanted before.made s) s
  pub made : after.made ≡ made_after before.wanted before.made s
  pub accounted : StaysAccounted old new before.stands.items after.stands.items

-- bytes were put into a file, before it was said what was made last
pub record Puts (old new : BuilderState) (before after : Plan) (s : DumpStep) : Type 0 where
  pub wanted : after.wanted ≡ before.wanted
  pub obstacle : after.obstacle ≡ before.obstacle
  pub later : after.later ≡ before.later
  pub observable : new.is_observable ≡ old.is_observable
  pub faults : new.faults ≡ old.faults
  pub left_out : new.left_out ≡ old.left_out
  pub holds : IsObservable old → new.holds ≡ after_step old.holds s
  pub accounted : StaysAccounted old new before.stands.items after.stands.items

-- An attribute was set, or kept, or neither, as it had its turn, before it was said what was made last.
pub record Turned (old new : BuilderState) (before after : Plan) (turn : Turn) (s : DumpStep) : Type 0 where
  pub wanted : after.wanted ≡ before.wanted
  pub made : after.made ≡ before.made
  pub obstacle : after.obstacle ≡ before.obstacle
  pub stands : after.stands ≡ before.stands
  pub observable : new.is_observable ≡ old.is_observable
  pub faults : new.faults ≡ old.faults
  pub left_out : new.left_out ≡ old.left_out
  pub holds : IsObservable old → new.holds ≡ steps_after old.holds (if_now turn s)
  pub later : map later_step after.later.items ≡ map later_step before.later.items ++ if_later turn s

-- what waits was kept behind what waited
pub record Keeps (before after : Plan) (s : DumpStep) : Type 0 where
  pub wanted : after.wanted ≡ before.wanted
  pub made : after.made ≡ before.made
  pub obstacle : after.obstacle ≡ before.obstacle
  pub stands : after.stands ≡ before.stands
  pub later : map later_step after.later.items ≡ map later_step before.later.items ++ s ∷ []

-- Whether a step is left out was found. Where it begins what is left out, the builder was told.
pub record Looked (old new : BuilderState) (before after : Plan) (s : DumpStep) (out : Bool) : Type 0 where
  pub plan : after ≡ before
  pub state : new ≡ (if out && begins s then told_of_one old else old)
  pub skips : out ≡ true → before.wanted.skips ≡ true
  pub text : has_host_text (step_path s) ≡ not out

-- ---- faults

-- A call of the builder failed, or memory ran out: the builder may hold a part of what it was to make.
pub record Breaks (old new : BuilderState) (before after : Plan) (fault : TakerFault) : Type 0 where
  pub wanted : after.wanted ≡ before.wanted
  pub obstacle : after.obstacle ≡ before.obstacle
  pub observable : new.is_observable ≡ old.is_observable
  pub faults : new.faults ≡ faults_after {T = Unit {0}} old.faults (Err fault)
  pub accounted : StaysAccounted old new before.stands.items after.stands.items

-- the path has none on the host, and is not skipped
pub record IsObstacle (before : Plan) (s : DumpStep) (path : Path) (fault : TakerFault) : Type 0 where
  pub path_is : path ≡ step_path s
  pub text : has_host_text path ≡ false
  pub skips : before.wanted.skips ≡ false
  pub fault_is : fault ≡ faults.Failed

-- an obstacle was met, and no call failed; or none was met
abbrev pub WhyBroken : BuilderState → BuilderState → Plan → DumpStep → TakerFault → Option Path → Type 0
WhyBroken old new before s fault None = new.faults ≡ faults_after {T = Unit {0}} old.faults (Err fault)
WhyBroken old new before s fault (Some path) = (new.faults ≡ old.faults) × IsObstacle before s path fault

-- A step was not taken, for this fault.
pub record BreaksStep (old new : BuilderState) (before after : Plan) (s : DumpStep) (fault : TakerFault)
    : Type 0 where
  pub wanted : after.wanted ≡ before.wanted
  pub observable : new.is_observable ≡ old.is_observable
  pub accounted : StaysAccounted old new before.stands.items after.stands.items
  pub why : before.obstacle ≡ None → WhyBroken old new before s fault after.obstacle

-- a plan before the first step
pub record IsFresh (plan : Plan) : Type 0 where
  pub made : plan.made ≡ made.Nothing
  pub later : plan.later.items ≡ []
  pub stands : plan.stands.items ≡ []
  pub obstacle : plan.obstacle ≡ None

-- ---- what waited

-- the tree without these paths
abbrev pub without_all : Tree → List Path → Tree
without_all t [] = t
without_all t (path ∷ paths) = without_all (without t path) paths

-- Steps that waited were carried out, one after another: each sets something on what stands.
pub record CarriesLater (old new : BuilderState) (steps : List DumpStep) (result : Result (Unit {0}) TakerFault)
    : Type 0 where
  pub observable : new.is_observable ≡ old.is_observable
  pub faults : new.faults ≡ faults_after old.faults result
  pub left_out : new.left_out ≡ old.left_out
  pub holds : IsObservable old → OnOk result (new.holds ≡ steps_after old.holds steps)
  pub brings : IsObservable old → BringsNone old.holds new.holds

-- Files were taken away again, and of each it was told that it is left out; or one of them stayed, and that is the
-- fault.
pub record TakesBack (old new : BuilderState) (paths : List Path) (result : Result (Unit {0}) TakerFault)
    : Type 0 where
  pub observable : new.is_observable ≡ old.is_observable
  pub faults : new.faults ≡ faults_after old.faults result
  pub left_out : OnOk result (new.left_out ≡ risen old.left_out (length paths))
  pub holds : IsObservable old → OnOk result (new.holds ≡ without_all old.holds paths)
  pub brings : IsObservable old → BringsNone old.holds new.holds

-- what comes of the links that waited: they are made, or left out
abbrev pub after_links : Links → Tree → List Later → Tree
after_links links.Made t later = steps_after t (link_steps later)
after_links links.LeftOut t later = without_all t (link_paths later)
after_links links.Data t later = steps_after t (link_steps later)

abbrev pub links_left_out : Links → List Later → ℕ
links_left_out links.Made later = 0
links_left_out links.LeftOut later = length (link_paths later)
links_left_out links.Data later = 0

-- What waited was made: links, or nothing in their place, and then times.
pub record Finishes (choice : Links) (old new : BuilderState) (later : List Later)
    (result : Result (Unit {0}) TakerFault) : Type 0 where
  pub observable : new.is_observable ≡ old.is_observable
  pub faults : new.faults ≡ faults_after old.faults result
  pub left_out : OnOk result (new.left_out ≡ risen old.left_out (links_left_out choice later))
  pub holds : IsObservable old
      → OnOk result (new.holds ≡ steps_after (after_links choice old.holds later) (time_steps later))
  pub brings : IsObservable old → BringsNone old.holds new.holds

-- All that was noted was taken away again, and so was the folder itself, but for so much, which stays.
pub record TakesAway (old new : BuilderState) (stands : List Standing) (stays : ℕ) : Type 0 where
  pub observable : new.is_observable ≡ old.is_observable
  pub faults : new.faults ≡ risen old.faults stays
  pub links : new.has_links ≡ old.has_links
  pub holds : IsObservable old → IsTrue (is_accounted stands old.holds) → stays ≡ 0 → new.holds ≡ []
