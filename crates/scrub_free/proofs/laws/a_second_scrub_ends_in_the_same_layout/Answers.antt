use Rattle.std.proofs.Common.{◌≡◌, take, length, sym, ap, ◌∙◌}
use Rattle.store_model.specs.Parameters.{image_len}
use Rattle.store_model.proofs.ImagesLemmasScrubbed.{take-scrubbed}
use Rattle.scrub_free.proofs.laws.a_second_scrub_ends_in_the_same_layout.Goals as goal

pub returns : goal.returns
returns c old image t p to same =
    let named = to.image_is in
    let long : length image ≡ image_len p.slots = same.same_length ∙ named.length_is in
    let header = sym (take-scrubbed p.slots image long) ∙ ap (take 4096) same.scrubs
    ∙ take-scrubbed p.slots old named.length_is ∙ named.names.header_is in
    record {
      image_is = record { names = record { in_range = named.names.in_range; header_is = header }; length_is = long };
      tree = to.tree;
      fits = to.fits;
      layout_is = same.scrubs ∙ to.layout_is;
    }
