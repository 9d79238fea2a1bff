use Rattle.group_table.proofs.IndexLaws.{index_put, one_put}
use Rattle.group_table.proofs.index.put.Goals as goal

pub returns-clause-index : goal.returns-clause-index
returns-clause-index c =
    index_put c.args.array.now c.set_bucket.new.array c.args.count c.args.bucket c.requires.index c.set_bucket.ensures.len
    (record {
      place = c.place_for-place.result;
      within = c.place_for-place.ensures.within;
      free = c.place_for-place.ensures.free;
      there =
          c.set_bucket.ensures.set;
      others = c.set_bucket.ensures.others;
    })
    c.place_for-place.ensures.path

pub returns-clause-more : goal.returns-clause-more
returns-clause-more c =
    one_put c.args.array.now c.set_bucket.new.array c.args.count c.args.bucket
    (record {
      place = c.place_for-place.result;
      within = c.place_for-place.ensures.within;
      free = c.place_for-place.ensures.free;
      there =
          c.set_bucket.ensures.set;
      others = c.set_bucket.ensures.others;
    })
