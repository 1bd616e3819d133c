-- The line of a reply.
use Rattle.std.specs.Prelude.{List, ℕ, codes, string_bytes}
use Rattle.state.specs.declared.state.Commit.{Commit}
use Rattle.state.specs.declared.balancing.Balance.{Balance}
use Rattle.monitor.specs.declared.question.Answer.{Answer}
use Rattle.monitor.specs.declared.question.Answer.TheVariants.{Up, Count, Groups, Epoch, Dump, Kept}
use Rattle.session.specs.declared.pool_sets.PoolSets.{PoolSets}
use Rattle.session.specs.declared.reply.Speaker.{Speaker}
use Rattle.session.specs.declared.reply.Speaker.TheVariants.{Monitor, Follower}
use Rattle.session.specs.declared.reply.Reply.{Reply}
use Rattle.session.specs.declared.reply.Reply.TheVariants.{Found, Sets, Changed, Moved}
use Rattle.session.specs.Texts.{up_text, ups_text, count_text, groups_text, epoch_text, dump_text, kept_text, ok_text, moved_text}

-- the first word of an up set, of the sets of a pool, of an epoch and of a map's text, by whom it is of
abbrev pub up_word : Speaker → List ℕ
up_word Monitor = codes "up"
up_word Follower = codes "fup"

-- the first word of the sets of a pool
abbrev pub ups_word : Speaker → List ℕ
ups_word Monitor = codes "ups"
ups_word Follower = codes "fups"

-- the first word of an epoch
abbrev pub epoch_word : Speaker → List ℕ
epoch_word Monitor = codes "epoch"
epoch_word Follower = codes "follow"

-- the first word of a map's text
abbrev pub dump_word : Speaker → List ℕ
dump_word Monitor = codes "dump"
dump_word Follower = codes "fdump"

-- the line of the answer to a question, by whom it is of
abbrev pub answer_text : Speaker → Answer → List ℕ
answer_text by (Up epoch pg set) = up_text (up_word by) epoch pg set
answer_text by (Count epoch osd count) = count_text epoch osd count
answer_text by (Groups epoch osd groups) = groups_text epoch osd groups.items
answer_text by (Epoch epoch) = epoch_text (epoch_word by) epoch
answer_text by (Dump text) = dump_text (dump_word by) (string_bytes text)
answer_text by (Kept epoch pg left) = kept_text epoch pg left

-- the line of the sets of a pool's groups, by whom they are of
abbrev pub sets_text : Speaker → PoolSets → List ℕ
sets_text by sets = ups_text (ups_word by) sets.epoch sets.pool (string_bytes sets.text)

-- the line of a change: the new epoch, and its evaluations
abbrev pub changed_text : Commit → List ℕ
changed_text commit = ok_text commit.epoch commit.evals

-- the line of a plan: the epoch then, and its moves
abbrev pub planned_text : Balance → List ℕ
planned_text balance = moved_text balance.moves balance.epoch

-- the line of a command that is not refused
abbrev pub reply_text : Reply → List ℕ
reply_text (Found by answer) = answer_text by answer
reply_text (Sets by sets) = sets_text by sets
reply_text (Changed epoch evals) = ok_text epoch evals
reply_text (Moved moves epoch) = moved_text moves epoch
