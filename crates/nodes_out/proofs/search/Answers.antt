-- `search` meets its contract: the core searches in arrays of its own, and the kept nodes are made of their fields.
use mathlib.Core.Path.{refl, sym}
use lib.Seq.{length-take-le}
use borrow.Author.Rules.{rules}
use Rattle.nodes_out.proofs.Kept.{works, kept-in-room, cut-room}
use Rattle.nodes_out.proofs.search.Goals as goal

pub slice_bounds-search-end : goal.slice_bounds-search-end
slice_bounds-search-end c = sym (length-take-le _ _ (search rules))

pub slice_bounds-search-end-2 : goal.slice_bounds-search-end-2
slice_bounds-search-end-2 c = sym (length-take-le _ _ (search rules))

pub slice_bounds-search-end-3 : goal.slice_bounds-search-end-3
slice_bounds-search-end-3 c = sym (length-take-le _ _ (search rules))

pub slice_bounds-search-end-4 : goal.slice_bounds-search-end-4
slice_bounds-search-end-4 c = sym (length-take-le _ _ (search rules))

pub pack-nodes-requires : goal.pack-nodes-requires
pack-nodes-requires c =
    kept-in-room _ _ _ _ _ _ c.search-answer.ensures
    c.search-answer.auto.codes (cut-room _ _ _
    c.room_of-least.ensures
    c.bytes-codes.ensures)
    c.kept_in-count.ensures

pub returns : goal.returns
returns c =
    works _ _ _ _ _ (record {
      given = _;
      left = _;
      codes-beyond = _;
      lefts-beyond = _;
      rights-beyond = _;
      sizes-beyond = _;
      codes-given = cut-room _ _ _
          c.room_of-least.ensures
          c.bytes-codes.ensures;
      lefts-given = cut-room _ _ _
          c.room_of-least.ensures
          c.places-lefts.ensures;
      rights-given = cut-room _ _ _
          c.room_of-least.ensures
          c.places-rights.ensures;
      sizes-given = cut-room _ _ _
          c.room_of-least.ensures
          c.bytes-sizes.ensures;
      codes-left = c.search-answer.auto.codes;
      old-is = refl;
      new_is = refl;
      kept-is = c.kept_in-count.ensures;
      room-is = search rules;
      searched = c.search-answer.ensures;
      filled = c.pack-nodes.ensures;
    })
