-- That a write failed is the system's word, and no contract knows it. So `Failing` says nothing, but it is shut: a proof has it from `print`, or cites
-- one of the two names below, as only those of `print` and of the loop in `carried` do.
pub Failing : Type 0
Failing = Unit {0}

-- a write answered that it failed
pub write-failed : Failing
unfolding Failing
write-failed = tt

-- a number of turns that no run uses up is used up
pub turns-used : Failing
unfolding Failing
turns-used = tt
