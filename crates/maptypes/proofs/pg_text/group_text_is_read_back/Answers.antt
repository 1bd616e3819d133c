use Rattle.maptypes.proofs.GroupTexts.{group_in-text}
use Rattle.maptypes.proofs.pg_text.group_text_is_read_back.Goals as goal

pub returns : goal.returns
returns c = group_in-text (record { pool = c.args._pool; number = c.args._number }) c.ranges._pool.fits c.ranges._number.fits
