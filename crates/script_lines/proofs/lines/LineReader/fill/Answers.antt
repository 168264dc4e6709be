use Rattle.std.proofs.Common.{false, ◌≡◌, ℕ, ◌+◌, ◌-◌, ◌≤◌, List, [], ◌++◌, length, take, drop, get_or, ap, ◌∙◌, arith}
use Rattle.std.proofs.Common.{min, max}
use Rattle.std.proofs.lemmas.List.{with_items_is, length-take, length-drop, length-take-le}
use borrow.Rule.Slice.PartMut.{put_mid}
use Rattle.script_lines.proofs.Held.{held_filled, length-held, length-put_mid, held_kept, one_byte, same_held}
use Rattle.script_lines.proofs.Held.{with_held}
use Rattle.script_lines.proofs.lines.LineReader.fill.Goals as goal

-- what is asked for fits behind what is held, and what is taken stands there
record HasRoom (mid into : List ℕ) (size wanted len : ℕ) : Type 0 where
  fits : size ≤ length mid
  taken : length into ≡ (size + wanted) - size
  some : 1 ≤ length into
  same_length : length (put_mid size ((size + wanted) - size) mid into) ≡ len

has_room : (mid into : List ℕ) (size wanted rest len : ℕ) → size ≤ 8192 → len ≡ 73728 → length mid ≡ len
    → wanted ≡ min (73728 - size) (max 1 rest) → length into ≡ length (take ((size + wanted) - size) (drop size mid))
    → HasRoom mid into size wanted len
has_room mid into size wanted rest len small whole long asked into_is =
    let taken : length into ≡ (size + wanted) - size =
    into_is ∙ length-take ((size + wanted) - size) (drop size mid) ∙ omega (arith, length-drop size mid) in
    record {
      fits = omega arith;
      taken = taken;
      some = omega (arith, taken);
      same_length = length-put_mid mid into size ((size + wanted) - size) (omega arith) taken ∙ long;
    }

pub returns-in-Ok-clause-fills : goal.returns-in-Ok-clause-fills
returns-in-Ok-clause-fills g c =
    let inside = c.self.inside in
    let size : ℕ = inside.end - inside.start in
    let count : ℕ = c.in-Ok.count in
    let into = c.take.new.into in
    let within : count ≤ length into = c.in-Ok.ensures.within in
    let size_is = length-held inside.buffer.items inside.start inside.end (omega (arith, inside.buffer.ok.0)) in
    let room =
    has_room c.as_mut_slice-buffer.result.now into size c.wanted_count-wanted.result (inside.limit - inside.taken)
    c.move_to_front.new.buffer.len (omega (arith, size_is, ap length (same_held c.self.view_is), c.requires.fits))
    (omega (arith, c.move_to_front.new.buffer.ok.0, c.move_to_front.ensures.size))
    (omega (arith, c.move_to_front.new.buffer.ok.0, ap length c.as_mut_slice-buffer.ensures.value))
    c.wanted_count-wanted.ensures c.take.auto.into in
    let no_offset : (size + count) - 0 ≡ size + count = omega arith in
    rw (← c.self.view_is) (record {
      piece = take count into;
      count_is = length-take-le count into within;
      same = with_held (record {
        source = c.take.new.self;
        held = [];
        taken = inside.taken + count;
        limit = inside.limit;
        is_ended = inside.is_ended;
        is_live = inside.is_live;
        text = [];
      })
          (held_filled (take size (drop inside.start inside.buffer.items)) c.as_mut_slice-buffer.result.now into _ size
          _ count _ no_offset (ap (take size) c.as_mut_slice-buffer.ensures.value
          ∙ c.move_to_front.ensures.moved) room.fits
          (with_items_is c.move_to_front.new.buffer _ room.same_length) within);
      in_limit = omega arith;
      moved = λ observable. (c.in-Ok.ensures.observed observable).moved;
      at_end = λ observable none. ((c.in-Ok.ensures.observed observable).end (omega (arith, room.some))).0 none;
    })

pub returns-in-Ok-2-clause-fills : goal.returns-in-Ok-2-clause-fills
returns-in-Ok-2-clause-fills g c =
    let inside = c.self.inside in
    let size : ℕ = inside.end - inside.start in
    let part : ℕ = (size + c.wanted_count-wanted.result) - size in
    let mid = c.as_mut_slice-buffer.result.now in
    let into = c.take.new.into in
    let asked : c.wanted_count-wanted.result ≡ min (73728 - size) (max 1 (inside.limit - inside.taken)) =
    c.wanted_count-wanted.ensures in
    let size_is = length-held inside.buffer.items inside.start inside.end (omega (arith, inside.buffer.ok.0)) in
    let room =
    has_room mid into size c.wanted_count-wanted.result (inside.limit - inside.taken)
    c.move_to_front.new.buffer.len (omega (arith, size_is, ap length (same_held c.self.view_is), c.requires.fits))
    (omega (arith, c.move_to_front.new.buffer.ok.0, c.move_to_front.ensures.size))
    (omega (arith, c.move_to_front.new.buffer.ok.0, ap length c.as_mut_slice-buffer.ensures.value))
    asked c.take.auto.into in
    let within : c.in-Ok.count ≤ length into = c.in-Ok.ensures.within in
    let one : c.in-Ok.count ≡ 1 = omega (arith, within, asked, room.taken) in
    let no_offset : size - 0 ≡ size = omega arith in
    rw (← c.self.view_is) (record {
      full = omega (arith, within, asked, room.taken);
      same = with_held (record {
        source = c.take.new.self;
        held = [];
        taken = inside.taken;
        limit = inside.limit;
        is_ended = inside.is_ended;
        is_live = false;
        text = [];
      })
          (held_kept (take size (drop inside.start inside.buffer.items)) mid into _ size part _ no_offset
          (ap (take size) c.as_mut_slice-buffer.ensures.value ∙ c.move_to_front.ensures.moved)
          room.fits (with_items_is c.move_to_front.new.buffer _ room.same_length));
      moved = λ observable. (
        get_or into 0 0,
        (c.in-Ok.ensures.observed observable).moved
            ∙ ap (λ (piece : List ℕ). piece ++ (g.R.Source.state c.take.new.self).left)
            (one_byte into c.in-Ok.count one (omega (arith, within, one))),
      );
    })

-- what is made of the source is what the take made of it
pub returns-in-Ok-clause-source : goal.returns-in-Ok-clause-source
returns-in-Ok-clause-source g c = rw (← c.self.view_is) (record {
  observable = c.in-Ok.ensures.observable;
  faults = c.in-Ok.ensures.faults;
})

pub returns-in-Ok-2-clause-source : goal.returns-in-Ok-2-clause-source
returns-in-Ok-2-clause-source g c =
    rw (← c.self.view_is) (record { observable = c.in-Ok.ensures.observable; faults = c.in-Ok.ensures.faults })

pub returns-in-Err-clause-source : goal.returns-in-Err-clause-source
returns-in-Err-clause-source g c =
    rw (← c.self.view_is) (record { observable = c.in-Err.ensures.observable; faults = c.in-Err.ensures.faults })

pub returns-in-Err-clause-fills : goal.returns-in-Err-clause-fills
returns-in-Err-clause-fills g c =
    let inside = c.self.inside in
    let size : ℕ = inside.end - inside.start in
    let part : ℕ = (size + c.wanted_count-wanted.result) - size in
    let mid = c.as_mut_slice-buffer.result.now in
    let into = c.take.new.into in
    let size_is = length-held inside.buffer.items inside.start inside.end (omega (arith, inside.buffer.ok.0)) in
    let room =
    has_room mid into size c.wanted_count-wanted.result (inside.limit - inside.taken)
    c.move_to_front.new.buffer.len (omega (arith, size_is, ap length (same_held c.self.view_is), c.requires.fits))
    (omega (arith, c.move_to_front.new.buffer.ok.0, c.move_to_front.ensures.size))
    (omega (arith, c.move_to_front.new.buffer.ok.0, ap length c.as_mut_slice-buffer.ensures.value))
    c.wanted_count-wanted.ensures c.take.auto.into in
    let no_offset : size - 0 ≡ size = omega arith in
    rw (← c.self.view_is) (record {
      same = with_held (record {
        source = c.take.new.self;
        held = [];
        taken = inside.taken;
        limit = inside.limit;
        is_ended = inside.is_ended;
        is_live = false;
        text = [];
      })
          (held_kept (take size (drop inside.start inside.buffer.items)) mid into _ size part _ no_offset
          (ap (take size) c.as_mut_slice-buffer.ensures.value ∙ c.move_to_front.ensures.moved)
          room.fits (with_items_is c.move_to_front.new.buffer _ room.same_length));
      kept = λ observable. (c.in-Err.ensures.observed observable).kept;
    })
