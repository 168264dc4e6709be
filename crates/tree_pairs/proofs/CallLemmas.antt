-- Lemmas on calls that carry out a command: what they owe where it is refused and where it is done.
use Rattle.std.proofs.Common.{false, ◌&&◌, nat_lt, if◌then◌else◌, ◌≡◌, Option, Some, None, Result, Ok, Err, refl, sym}
use Rattle.std.proofs.Common.{ap, ◌∙◌}
use Rattle.store_model.specs.declared.refusal.Refusal.{Refusal}
use Rattle.store_model.specs.declared.refusal.Refusal.TheVariants as refusals
use Rattle.store_model.specs.declared.version.Version.{Version}
use Rattle.store_model.specs.Parameters.{Parameters}
use Rattle.store_model.specs.Trees.{Tree}
use Rattle.store_model.specs.Pairs.{pairs}
use Rattle.store_model.specs.Commands.{Command, Reply}
use Rattle.store_model.specs.Commands.Reply.{Refused}
use Rattle.store_model.specs.Pages.{page_count}
use Rattle.store_model.specs.Steps.{refusal_of, next_tree, reply_of, may_fill, lacks_version, step, step_by}
use Rattle.store_model.proofs.TreesLemmasSteps.{step_by_refusal}
use Rattle.store_base.specs.declared.store_fault.Fault.{Fault}
use Rattle.ordered_pairs.specs.PairsState.{PairsState}
use Rattle.tree_pairs.specs.TreeCalls.{uncounted_by, uncounted_step, IsStepOf, CarriesOut, CarriesOutUnder}

-- a command that is not refused: its reply, and the pairs of the next tree
pub step_done : {T : Type 0} (see : T → Reply) (value : T) (t : Tree) (command : Command)
    (p : Parameters) (new : PairsState)
    → refusal_of t command ≡ None → see value ≡ reply_of t command p → new.pairs ≡ pairs (next_tree t command) p
    → IsStepOf see (uncounted_step t command p) p new (Ok value)
step_done see value t command p new e reply pairs_are = record {
  reply = reply ∙ sym (ap (λ o. (uncounted_by t command p o).reply) e);
  pairs_are = pairs_are ∙ sym (ap (λ o. pairs (uncounted_by t command p o).tree p) e);
}

-- a refused one: the refusal, and the pairs of the same tree
pub step_refused : {T : Type 0} (see : T → Reply) (refusal : Refusal) (t : Tree) (command : Command)
    (p : Parameters) (new : PairsState)
    → refusal_of t command ≡ Some refusal → new.pairs ≡ pairs t p
    → IsStepOf see (uncounted_step t command p) p new (Err refusal)
step_refused see refusal t command p new e pairs_are = record {
  reply = sym (ap (λ o. (uncounted_by t command p o).reply) e);
  pairs_are = pairs_are ∙ sym (ap (λ o. pairs (uncounted_by t command p o).tree p) e);
}

-- the definitions' step, where the version has the command and what follows fits
uncounted_by_fits : (t : Tree) (command : Command) (p : Parameters) (o : Option Refusal)
    → (may_fill command && nat_lt p.slots (page_count (next_tree t command) p)) ≡ false
    → step_by t command p o ≡ uncounted_by t command p o
uncounted_by_fits t command p (Some refusal) e = refl
uncounted_by_fits t command p None e =
    ap (λ b. if b then (record {
      reply = Refused (refusals.Full (page_count (next_tree t command) p) p.slots);
      tree = t;
    }) else
    (record { reply = reply_of t command p; tree = next_tree t command })) e

pub step_where_it_fits : (t : Tree) (command : Command) (p : Parameters) → lacks_version command p ≡ false
    → (may_fill command && nat_lt p.slots (page_count (next_tree t command) p)) ≡ false
    → step t command p ≡ uncounted_step t command p
step_where_it_fits t command p has e = step_by_refusal t command p has
    ∙ uncounted_by_fits t command p (refusal_of t command) e

-- and where it is refused for another cause
pub step_where_refused : (t : Tree) (command : Command) (p : Parameters) (refusal : Refusal)
    → lacks_version command p ≡ false → refusal_of t command ≡ Some refusal
    → step t command p ≡ uncounted_step t command p
step_where_refused t command p refusal has e = step_by_refusal t command p has ∙ ap (step_by t command p) e
    ∙ sym (ap (uncounted_by t command p) e)

-- a call that carries out a command under each version does so under one
pub carries_under : {T : Type 0} (version : Version) (see : T → Reply) (command : Command) (old new : PairsState)
    (result : Result (Result T Refusal) Fault) → CarriesOut see command old new result
    → CarriesOutUnder version see command old new result
carries_under version see command old new result done = record {
  faults = done.faults;
  observable = done.observable;
  carried = λ seen t p under holds. done.carried seen t p holds;
}
