-- When an attribute has its turn.
use Rattle.std.proofs.Common.{◌≡◌, Bool, true, false, ◌&&◌, if◌then◌else◌, nat_eq, sym, ap, ◌∙◌}
use Rattle.std.specs.Cmp.Lexicographic.{pointwise}
use Rattle.store_model.specs.Paths.{Path, same_path}
use Rattle.path_keys.specs.PathOrder.{paths_ties}
use Rattle.host_builder.specs.declared.attribute.Wanted.{Wanted}
use Rattle.host_builder.specs.declared.attribute.HostAttribute.{HostAttribute}
use Rattle.host_builder.specs.declared.attribute.HostAttribute.TheVariants as attributes
use Rattle.host_builder.specs.declared.plan.Made.{Made}
use Rattle.host_builder.specs.declared.plan.Made.TheVariants as made
use Rattle.host_builder.specs.declared.plan.Turn.{Turn}
use Rattle.host_builder.specs.declared.plan.Turn.TheVariants as turns
use Rattle.host_builder.specs.Turns.{reads_links, folder_turn, file_turn, attribute_turn}

-- paths that were compared
pub same_here : (at path : Path) (test answer : Bool) → test ≡ pointwise (pointwise nat_eq) at path → test ≡ answer
    → same_path at path ≡ answer
same_here at path test answer test_is is = sym (paths_ties at path) ∙ sym test_is ∙ is

module _ (wanted : Wanted) (last : Made) (at path : Path) (attribute : HostAttribute) (test : Bool)
    (test_is : test ≡ pointwise (pointwise nat_eq) at path) where
  pub of_folder : (turn : Turn) → last ≡ made.Folder at → test ≡ true → turn ≡ folder_turn wanted attribute
      → turn ≡ attribute_turn wanted last path attribute
  of_folder turn is here turn_is =
      turn_is
      ∙ sym (ap (λ (m : Made). attribute_turn wanted m path attribute) is
      ∙ ap (λ (b : Bool). if b then folder_turn wanted attribute else turns.Never)
      (same_here at path test true test_is here))

  pub of_other_folder : last ≡ made.Folder at → test ≡ false → turns.Never ≡ attribute_turn wanted last path attribute
  of_other_folder is other =
      sym (ap (λ (m : Made). attribute_turn wanted m path attribute) is
      ∙ ap (λ (b : Bool). if b then folder_turn wanted attribute else turns.Never)
      (same_here at path test false test_is other))

  module _ (is_empty : Bool) (is : last ≡ made.File at is_empty) where
    pub of_file : (turn : Turn) → test ≡ true → turn ≡ file_turn wanted is_empty attribute
        → turn ≡ attribute_turn wanted last path attribute
    of_file turn here turn_is =
        turn_is
        ∙ sym (ap (λ (m : Made). attribute_turn wanted m path attribute) is
        ∙ ap (λ (b : Bool). if b then file_turn wanted is_empty attribute else turns.Never)
        (same_here at path test true test_is here))

    pub of_other_file : test ≡ false → turns.Never ≡ attribute_turn wanted last path attribute
    of_other_file other =
        sym (ap (λ (m : Made). attribute_turn wanted m path attribute) is
        ∙ ap (λ (b : Bool). if b then file_turn wanted is_empty attribute else turns.Never)
        (same_here at path test false test_is other))

-- ---- what never is

-- a link is never made at once
pub link_not_now : (wanted : Wanted) (last : Made) (path : Path)
    → attribute_turn wanted last path attributes.Link ≡ turns.Now → ⊥
link_not_now wanted made.Nothing path is = cc
link_not_now wanted (made.Folder at) path is =
    elim (same_path at path) as (λ b. (if b then turns.Never else turns.Never) ≡ turns.Now → ⊥) [
      | true ↦ λ e. cc
      | false ↦ λ e. cc
    ] is
link_not_now wanted (made.File at is_empty) path is =
    elim (same_path at path) as (λ b. (if b then (if reads_links wanted.links && is_empty then turns.Later else
    turns.Never)
    else turns.Never) ≡ turns.Now → ⊥) [
      | true ↦ elim (reads_links wanted.links && is_empty) as
          (λ b. (if b then turns.Later else turns.Never) ≡ turns.Now → ⊥) [
            | true ↦ λ e. cc
            | false ↦ λ e. cc
          ]
      | false ↦ λ e. cc
    ] is

-- and the mode of a file never waits
pub mode_not_later : (wanted : Wanted) (last : Made) (path : Path)
    → attribute_turn wanted last path attributes.Executes ≡ turns.Later → ⊥
mode_not_later wanted made.Nothing path is = cc
mode_not_later wanted (made.Folder at) path is =
    elim (same_path at path) as (λ b. (if b then turns.Never else turns.Never) ≡ turns.Later → ⊥) [
      | true ↦ λ e. cc
      | false ↦ λ e. cc
    ] is
mode_not_later wanted (made.File at is_empty) path is =
    elim (same_path at path) as (λ b. (if b then (if wanted.mode then turns.Now else turns.Never)
    else turns.Never) ≡ turns.Later → ⊥) [
      | true ↦ elim wanted.mode as (λ b. (if b then turns.Now else turns.Never) ≡ turns.Later → ⊥) [
        | true ↦ λ e. cc
        | false ↦ λ e. cc
      ]
      | false ↦ λ e. cc
    ] is
