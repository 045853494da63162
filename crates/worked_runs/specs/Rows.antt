-- Short runs of the list machine, line by line, and a wrong version of each.
use Rattle.std.specs.Prelude.{ℕ, List, [], ◌∷◌, ◌++◌, Some}
use Rattle.record_key.specs.declared.op.Op.{Op}
use Rattle.record_key.specs.declared.op.Op.TheVariants.{Insert, Update, Add}
use Rattle.record_key.specs.Table.{Bytes}
use Rattle.record_key.specs.declared.op.Answer.{Answer}
use Rattle.record_key.specs.declared.op.Answer.TheVariants.{Inserted, Updated, Exists, NotNumber, Added}
use Rattle.record_key.specs.declared.refusal.Refusal.TheVariants.{Busy}
use Rattle.history.specs.ListMachine.{OfKey, ToAct, ToRead, Line, Begins, Acts, TellsAnswer, Reads, TellsRow, Saves, GoesBack, TellsBack, RollsBack, TellsRolledBack, Commits, TellsCommitted, Crashes, TellsLost, IsRefused}

-- the keys a and k, the values 1 and 2
abbrev pub insert_a : Op
insert_a = Insert (97 ∷ []) (49 ∷ [])

abbrev pub insert_first : Op
insert_first = Insert (107 ∷ []) (49 ∷ [])

abbrev pub insert_second : Op
insert_second = Insert (107 ∷ []) (50 ∷ [])

-- one insert, and what comes then
abbrev pub after_insert_a : List Line → List Line
after_insert_a lines = Begins 2 ∷ Acts 2 insert_a 3 ∷ TellsAnswer 2 Inserted ∷ lines

-- one insert, then a rollback
abbrev pub insert_rolled_back : List Line
insert_rolled_back = after_insert_a (RollsBack 2 ∷ TellsRolledBack 2 ∷ [])

-- the same, but for the call that rolls back
abbrev pub never_rolling_back : List Line
never_rolling_back = after_insert_a (TellsRolledBack 2 ∷ [])

-- the number of a transaction that is over is given again
abbrev pub number_twice : List Line
number_twice = Begins 2 ∷ RollsBack 2 ∷ TellsRolledBack 2 ∷ Begins 2 ∷ []

-- two inserts of one key, the second answered so, then a rollback
abbrev pub twice_answered : Answer → List Line
twice_answered second =
    Begins 2 ∷ Acts 2 insert_first 3 ∷ TellsAnswer 2 Inserted ∷ Acts 2 insert_second 5 ∷ TellsAnswer 2 second
    ∷ RollsBack 2 ∷ TellsRolledBack 2 ∷ []

-- as it should be, and as it must not
abbrev pub insert_twice : List Line
insert_twice = twice_answered Exists

abbrev pub inserted_twice : List Line
inserted_twice = twice_answered Inserted

-- a crash before a commit is told: it stays, and the next insert finds the record
abbrev pub commit_stays : List Line
commit_stays = after_insert_a (Commits 2 ∷ Crashes ∷ Begins 6 ∷ Acts 6 insert_a 7 ∷ TellsAnswer 6 Exists ∷ [])

-- or it falls
abbrev pub commit_falls : List Line
commit_falls = after_insert_a (Commits 2 ∷ Crashes ∷ TellsLost 2 ∷ [])

-- but not once it is told
abbrev pub told_commit_falls : List Line
told_commit_falls = after_insert_a (Commits 2 ∷ TellsCommitted 2 ∷ Crashes ∷ TellsLost 2 ∷ [])

-- the end of a rollback is lost in a crash
abbrev pub end_is_lost : List Line
end_is_lost = after_insert_a (RollsBack 2 ∷ TellsRolledBack 2 ∷ Crashes ∷ TellsLost 2 ∷ [])

-- a crash loses all of a transaction, a told answer too, and its numbers are given again
abbrev pub numbers_again : List Line
numbers_again = after_insert_a (Crashes ∷ Begins 2 ∷ Acts 2 insert_a 3 ∷ TellsAnswer 2 Inserted ∷ [])

-- but none of whoever was told that it committed
abbrev pub committed_again : List Line
committed_again = after_insert_a (Commits 2 ∷ TellsCommitted 2 ∷ Crashes ∷ Begins 2 ∷ [])

-- nobody loses who never began
abbrev pub nobody_is_lost : List Line
nobody_is_lost = Crashes ∷ TellsLost 999 ∷ []

-- an operation meets a crash before it is answered, and then another transaction meets its key
abbrev pub crash_amid_insert : List Line → List Line
crash_amid_insert lines =
    Begins 2 ∷ Acts 2 insert_a 3 ∷ Crashes ∷ Begins 4 ∷ IsRefused (ToAct 4 insert_a) (Busy 2) ∷ lines

abbrev pub key_stays_held : List Line
key_stays_held = crash_amid_insert []

abbrev pub held_key_is_taken : List Line
held_key_is_taken = crash_amid_insert (Acts 4 insert_a 5 ∷ [])

-- an insert is taken back to a savepoint, and done again with this answer
abbrev pub again_answered : Answer → List Line
again_answered again =
    Begins 2 ∷ Saves 2 1 ∷ Acts 2 insert_a 3 ∷ TellsAnswer 2 Inserted ∷ GoesBack 2 1 ∷ TellsBack 2 1
    ∷ Acts 2 insert_a 5 ∷ TellsAnswer 2 again ∷ []

abbrev pub insert_again : List Line
insert_again = again_answered Inserted

abbrev pub crossed_is_seen : List Line
crossed_is_seen = again_answered Exists

-- a read of a key that another inserts is refused, or asked all the same
abbrev pub amid_insert : Line → List Line
amid_insert line = Begins 2 ∷ Acts 2 insert_a 3 ∷ Begins 4 ∷ line ∷ []

abbrev pub read_is_busy : List Line
read_is_busy = amid_insert (IsRefused (ToRead 4 (OfKey (97 ∷ []))) (Busy 2))

abbrev pub held_key_is_read : List Line
held_key_is_read = amid_insert (Reads 4 (OfKey (97 ∷ [])))

-- a counter, the key k, and the numbers that it may hold
abbrev pub number : ℕ → Bytes
number n = 0 ∷ 0 ∷ 0 ∷ 0 ∷ 0 ∷ 0 ∷ 0 ∷ n ∷ []

abbrev pub insert_five : Op
insert_five = Insert (107 ∷ []) (number 5)

abbrev pub add_three : Op
add_three = Add (107 ∷ []) 3

abbrev pub add_ten : Op
add_ten = Add (107 ∷ []) 10

-- two transactions add to a counter that stands at five, the first 3 and the other 10; the first rolls back, and the
-- other reads
abbrev pub first_taken_back : List Line
first_taken_back =
    Begins 2 ∷ Acts 2 insert_five 3 ∷ TellsAnswer 2 Inserted ∷ Commits 2 ∷ TellsCommitted 2 ∷ Begins 6 ∷ Begins 7
    ∷ Acts 6 add_three 8 ∷ Acts 7 add_ten 9 ∷ TellsAnswer 7 (Added 10) ∷ TellsAnswer 6 (Added 3) ∷ RollsBack 6
    ∷ TellsRolledBack 6 ∷ Reads 7 (OfKey (107 ∷ [])) ∷ []

abbrev pub counter_reads : ℕ → List Line
counter_reads n = first_taken_back ++ TellsRow 7 (Some (number n)) ∷ []

-- the other's ten stand; and as if the undo had put back what the first found
abbrev pub increment_undone : List Line
increment_undone = counter_reads 15

abbrev pub old_value_restored : List Line
old_value_restored = counter_reads 5

-- a number, a text in its place, and an Add that is answered so
abbrev pub update_text : Op
update_text = Update (107 ∷ []) (118 ∷ [])

abbrev pub text_put : List Line
text_put =
    Begins 2 ∷ Acts 2 insert_five 3 ∷ TellsAnswer 2 Inserted ∷ Acts 2 update_text 5
    ∷ TellsAnswer 2 (Updated (number 5)) ∷ Acts 2 add_three 7 ∷ []

abbrev pub add_answered : Answer → List Line
add_answered answer = text_put ++ TellsAnswer 2 answer ∷ []

abbrev pub add_refused : List Line
add_refused = add_answered NotNumber

abbrev pub stale_value_added : List Line
stale_value_added = add_answered (Added 3)
