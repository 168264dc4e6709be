-- Levels under other slots.
use Rattle.std.proofs.Common.{◌≡◌, ℕ, ◌<◌, List, Some, refl, sym, ap, ◌∙◌, arith}
use Rattle.std.proofs.lemmas.List.Elements.{All-weaker}
use Rattle.store_model.specs.declared.draw_kind.DrawKind.{DrawKind}
use Rattle.store_model.specs.declared.draw_kind.DrawKind.TheVariants.{Ruler, Sha256}
use Rattle.store_model.specs.Parameters.{Parameters}
use Rattle.store_model.specs.Draws.{Draw, draw_of, level_by}
use Rattle.seeded_draw.specs.declared.any.AnyDraw.{AnyDraw}
use Rattle.seeded_draw.specs.AnyDrawn.{any_draw, any_is_lawful}
use Rattle.drawn_levels.specs.declared.kept.KeptLevels.{KeptLevels}
use Rattle.drawn_levels.specs.declared.run.Run.{Run}
use Rattle.drawn_levels.specs.Kept.{HoldsRun, HoldsLevels}
use Rattle.drawn_levels.specs.Known.{Knows}

kind_by_kind : (kind : DrawKind) (p : Parameters) (slots : ℕ) (key : List ℕ)
    → level_by kind (record p { slots = slots }) key ≡ level_by kind p key
kind_by_kind Ruler p slots key = refl
kind_by_kind Sha256 p slots key = refl

-- no level depends on how many slots there are
pub same_levels : (p : Parameters) (slots : ℕ) (key : List ℕ)
    → (draw_of (record p { slots = slots })).level key ≡ (draw_of p).level key
unfolding draw_of
same_levels p slots key = kind_by_kind p.kind p slots key

-- so the levels that are held for one table are those for another
pub held_again : (d e : Draw) (kept : KeptLevels) → ((key : List ℕ) → e.level key ≡ d.level key) → HoldsLevels d kept
    → HoldsLevels e kept
held_again d e kept same held = record {
  runs = All-weaker (HoldsRun d kept.levels.items) (HoldsRun e kept.levels.items) one kept.runs.items held.runs;
  last = held.last;
}
  where
    one : (run : Run) → HoldsRun d kept.levels.items run → HoldsRun e kept.levels.items run
    one run held_run key place within here =
        held_run key place within here ∙ ap (λ n. Some n) (sym (same key))

height_is : (p : Parameters) → (draw_of p).height ≡ p.height
unfolding draw_of
height_is p = refl

-- a level that is drawn lies below the height
pub below_height : (p : Parameters) (draw : AnyDraw) (kept : KeptLevels) (key : List ℕ) (level : ℕ) → Knows p draw kept
    → level ≡ (any_draw draw).level key → level < p.height
below_height p draw kept key level knows is =
    let low = (any_is_lawful draw).level_in_range key in
    let high : (any_draw draw).height ≡ p.height = ap (λ (d : Draw). d.height) knows.draw_is ∙ height_is p in
    omega (arith, low, high, is)

-- and so does one that is kept
pub below_kept : (p : Parameters) (draw : AnyDraw) (kept : KeptLevels) (key : List ℕ) (level : ℕ) → Knows p draw kept
    → level ≡ (draw_of p).level key → level < p.height
below_kept p draw kept key level knows is =
    below_height p draw kept key level knows (is ∙ sym (ap (λ (d : Draw). d.level key) knows.draw_is))
