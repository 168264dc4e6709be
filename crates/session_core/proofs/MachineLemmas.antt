-- Lemmas on the machine of sessions: what happens where it is not stopped, and what stands where a call is turned away.
use Rattle.std.proofs.Common.{◌≡◌, Bool, true, false, Option, None, Some, unwrap_or, if◌then◌else◌, refl, sym, ap, ◌∙◌}
use Rattle.store_model.specs.Parameters.{Parameters}
use Rattle.store_model.specs.Trees.{Tree}
use Rattle.script_lines.specs.Sessions.{SessionCall, SessionAnswer}
use Rattle.script_lines.specs.Sessions.SessionCall.{Begin, Ask, Stage, Commit, Leave}
use Rattle.script_lines.specs.Sessions.SessionAnswer.{Began, Replied, Done, Conflicting, RefusedAt}
use Rattle.session_core.specs.Machine.{Places, Machine, World, turn, turned_away, served, answered, tree_after_call}
use Rattle.session_core.specs.Machine.{places_after, happens}
use Rattle.session_core.specs.Machine.Event.{Acts, Fails, Breaks}
use Rattle.session_core.specs.SessionCalls.{turned_by}

-- a world, by its parts
pub world_is : (w : World) (t : Tree) (places : Places) (b : Bool) → w.machine.tree ≡ t → w.machine.places ≡ places
    → w.is_stopped ≡ b → w ≡ record { machine = record { tree = t; places = places }; is_stopped = b }
world_is w t places b e f g =
    ap (λ (u : Tree). record { machine = record { tree = u; places = w.machine.places }; is_stopped = w.is_stopped }) e
    ∙ ap (λ (q : Places). record { machine = record { tree = t; places = q }; is_stopped = w.is_stopped }) f
    ∙ ap (λ (c : Bool). record { machine = record { tree = t; places = places }; is_stopped = c }) g

-- ---- where it is not stopped

module _ (p : Parameters) (w : World) (call : SessionCall) where
  acted : Bool → Option SessionAnswer × World
  acted b = if b then (None, w) else (
    Some (turn p w.machine call).0,
    record {
      machine = (turn p w.machine call).1;
      is_stopped = false;
    },
  )

  left : SessionAnswer → World
  left a = record {
    machine = record { tree = tree_after_call p w.machine call a; places = places_after w.machine.places call a };
    is_stopped = false;
  }

  broken : Bool → Option SessionAnswer × World
  broken b = if b then (None, w) else (None, record { machine = w.machine; is_stopped = true })

  -- a call is answered so, and leaves this world
  pub acts : (a : SessionAnswer) (next : World) → w.is_stopped ≡ false → answered p w.machine call ≡ a
      → next.machine.tree ≡ tree_after_call p w.machine call a
      → next.machine.places ≡ places_after w.machine.places call a → next.is_stopped ≡ false
      → happens p w (Acts call) ≡ (Some a, next)
  unfolding acted left
  acts a next runs same tree places still =
      ap acted runs ∙ ap (λ (x : SessionAnswer). (Some x, left x)) same
      ∙ ap (λ (v : World). (Some a, v))
      (sym (world_is next (tree_after_call p w.machine call a)
      (places_after w.machine.places call a) false tree places still))

  -- a call fails, and leaves all as it was
  pub fails : (next : World) → next.machine.tree ≡ w.machine.tree → next.machine.places ≡ w.machine.places
      → next.is_stopped ≡ w.is_stopped → happens p w (Fails call) ≡ (None, next)
  fails next tree places same = ap (λ (v : World). (None, v))
      (sym (world_is next w.machine.tree w.machine.places w.is_stopped tree places same))

  -- a call breaks, and nothing lands
  pub breaks : (next : World) → w.is_stopped ≡ false → next.machine.tree ≡ w.machine.tree
      → next.machine.places ≡ w.machine.places → next.is_stopped ≡ true → happens p w (Breaks call false) ≡ (None, next)
  unfolding broken
  breaks next runs tree places stops =
      ap broken runs ∙ ap (λ (v : World). (None, v))
      (sym (world_is next w.machine.tree w.machine.places true tree places stops))

  landed : Bool → Option SessionAnswer × World
  landed b = if b then (None, w) else (
    Some (turn p w.machine call).0,
    record {
      machine = record { tree = (turn p w.machine call).1.tree; places = w.machine.places };
      is_stopped = true;
    },
  )

  tree_in : Option SessionAnswer × World → Tree
  tree_in happened = happened.1.machine.tree

  -- the trees that are left where it breaks
  pub tree_lost : w.is_stopped ≡ false → (happens p w (Breaks call false)).1.machine.tree ≡ w.machine.tree
  unfolding broken tree_in
  tree_lost runs = ap tree_in (ap broken runs)

  pub tree_landed : w.is_stopped ≡ false → (happens p w (Breaks call true)).1.machine.tree
      ≡ tree_after_call p w.machine call (answered p w.machine call)
  unfolding landed tree_in
  tree_landed runs = ap tree_in (ap landed runs)

-- ---- calls that are turned away

pub turned_answer : (p : Parameters) (m : Machine) (call : SessionCall) (a : SessionAnswer)
    → turned_away m.places call ≡ Some a → answered p m call ≡ a
turned_answer p m call a turned = ap (λ (o : Option SessionAnswer). unwrap_or o (served p m call)) turned

pub served_answer : (p : Parameters) (m : Machine) (call : SessionCall) → turned_away m.places call ≡ None
    → answered p m call ≡ served p m call
served_answer p m call none = ap (λ (o : Option SessionAnswer). unwrap_or o (served p m call)) none

pub turned_tree : (p : Parameters) (m : Machine) (call : SessionCall) (a : SessionAnswer) → turned_by (Some a) ≡ Some a
    → tree_after_call p m call a ≡ m.tree
turned_tree p m (Commit id) Done turned = absurd (cc)
turned_tree p m call a turned = refl

pub turned_places : (places : Places) (call : SessionCall) (a : SessionAnswer) → turned_by (Some a) ≡ Some a
    → places_after places call a ≡ places
turned_places places Begin (Began id) turned = absurd (cc)
turned_places places (Ask id question) (Replied reply) turned = absurd (cc)
turned_places places (Stage id change) Done turned = absurd (cc)
turned_places places (Commit id) Done turned = absurd (cc)
turned_places places (Commit id) (Conflicting k was now) turned = absurd (cc)
turned_places places (Commit id) (RefusedAt k refusal) turned = absurd (cc)
turned_places places (Leave id) Done turned = absurd (cc)
turned_places places call a turned = refl
