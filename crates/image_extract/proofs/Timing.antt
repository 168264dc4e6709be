-- Where no path has a time, asking for times changes nothing.
use Rattle.std.proofs.Common.{◌≡◌, ℕ, [], ◌∷◌, map, length, Bool, true, false, not, ◌&&◌, ◌||◌, ◌==◌, cond}
use Rattle.std.proofs.Common.{Option, Some, None, refl, ap, ap₂, ◌∙◌}
use Rattle.std.specs.List.{AllByRecursion, filter, list_any}
use Rattle.store_model.specs.Paths.{Path}
use Rattle.store_model.specs.Trees.{Tree, Node, Entry, Attributes}
use Rattle.store_model.specs.Trees.Node.{Directory, File}
use Rattle.host_builder.specs.declared.attribute.HostAttribute.{HostAttribute}
use Rattle.host_builder.specs.declared.attribute.HostAttribute.TheVariants as attributes
use Rattle.host_builder.specs.declared.attribute.Wanted.{Wanted}
use Rattle.host_builder.specs.HostAttributes.{attribute_of}
use Rattle.host_builder.specs.Passing.{is_passed}
use Rattle.host_builder.specs.Views.{folder_has, file_has, link_has, kept, is_link, host_attributes, host_entry}
use Rattle.host_builder.specs.Views.{leaves_links, is_link_node, is_made, host_view}
use Rattle.image_extract.specs.Times.{SayNoTime, HasNoTime, with_times}

module _ (wanted : Wanted) where
  abbrev timed : Wanted
  timed = with_times wanted

  -- ---- one attribute

  abbrev IsNone : Option HostAttribute → Type 0
  IsNone o = (seconds : ℕ) → o ≡ Some (attributes.Time seconds) → ⊥

  folder_same : (o : Option HostAttribute) → IsNone o → folder_has timed o ≡ folder_has wanted o
  folder_same None none = refl
  folder_same (Some attributes.Executes) none = refl
  folder_same (Some (attributes.Time seconds)) none = absurd (none seconds refl)
  folder_same (Some attributes.Link) none = refl

  file_same : (o : Option HostAttribute) → IsNone o → file_has timed o ≡ file_has wanted o
  file_same None none = refl
  file_same (Some attributes.Executes) none = refl
  file_same (Some (attributes.Time seconds)) none = absurd (none seconds refl)
  file_same (Some attributes.Link) none = refl

  link_same : (o : Option HostAttribute) → link_has timed o ≡ link_has wanted o
  link_same None = refl
  link_same (Some attributes.Executes) = refl
  link_same (Some (attributes.Time seconds)) = refl
  link_same (Some attributes.Link) = refl

  -- ---- those of a path

  kept_same : (has other : Option HostAttribute → Bool)
      → ((o : Option HostAttribute) → IsNone o → has o ≡ other o)
      → (names : Attributes) → SayNoTime names → kept has names ≡ kept other names
  kept_same has other same [] none = refl
  kept_same has other same (a ∷ names) none =
      ap₂ (λ (b : Bool) (rest : Attributes). cond b (a ∷ rest) rest) (same (attribute_of a.0 a.1) none.0)
      (kept_same has other same names none.1)

  links_same : (names : Attributes) → list_any (λ a. link_has timed (attribute_of a.0 a.1)) names
      ≡ list_any (λ a. link_has wanted (attribute_of a.0 a.1)) names
  links_same [] = refl
  links_same (a ∷ names) = ap₂ (λ x y. x || y) (link_same (attribute_of a.0 a.1)) (links_same names)

  is_link_same : (is_empty : Bool) (names : Attributes) → is_link timed is_empty names ≡ is_link wanted is_empty names
  is_link_same is_empty names = ap (λ b. is_empty && b) (links_same names)

  attributes_same : (node : Node) (names : Attributes) → SayNoTime names
      → host_attributes timed node names ≡ host_attributes wanted node names
  attributes_same Directory names none = kept_same (folder_has timed) (folder_has wanted) folder_same names none
  attributes_same (File bytes) names none =
      ap (λ b. cond b (kept (link_has timed) names) (kept (file_has timed) names))
      (is_link_same (length bytes == 0) names)
      ∙ ap₂ (λ links files. cond (is_link wanted (length bytes == 0) names) links files)
      (kept_same (link_has timed) (link_has wanted) (λ o is. link_same o) names none)
      (kept_same (file_has timed) (file_has wanted) file_same names none)

  -- ---- the tree

  link_node_same : (node : Node) (names : Attributes)
      → is_link_node timed node names ≡ is_link_node wanted node names
  link_node_same Directory names = refl
  link_node_same (File bytes) names = is_link_same (length bytes == 0) names

  made_same : (e : Path × Entry) → is_made timed e ≡ is_made wanted e
  made_same e =
      ap (λ b. is_passed wanted e.0 && not (leaves_links wanted.links && b))
      (link_node_same e.1.node e.1.attributes)

  abbrev entry_of : Node → Attributes → Entry
  entry_of node names = record { node = node; attributes = names }

  abbrev shown : Wanted → Path × Entry → Path × Entry
  shown w f = (f.0, host_entry w f.1)

  pub view_same : (t : Tree) → HasNoTime t → host_view timed t ≡ host_view wanted t
  view_same [] none = refl
  view_same (e ∷ t) none =
      ap (λ (b : Bool). map (shown timed) (cond b (e ∷ filter (is_made timed) t) (filter (is_made timed) t)))
      (made_same e)
      ∙ by_made (is_made wanted e) (view_same t none.1)
    where
      by_made : (b : Bool) → host_view timed t ≡ host_view wanted t
          → map (shown timed) (cond b (e ∷ filter (is_made timed) t) (filter (is_made timed) t))
          ≡ map (shown wanted) (cond b (e ∷ filter (is_made wanted) t) (filter (is_made wanted) t))
      by_made true rest =
          ap₂ (λ (names : Attributes) (more : Tree). (e.0, entry_of e.1.node names) ∷ more)
          (attributes_same e.1.node e.1.attributes none.0) rest
      by_made false rest = rest
