-- `host::open::slc1_user_data` meets its contract.
-- Assumes nothing.
use Rattle.host.proofs.UserDataLaws.{data_refused, data_short, data_written}
use Rattle.host.proofs.open.slc1_user_data.Goals as goal

pub returns-then-out-lt-USER_DATA_SIZE : goal.returns-then-out-lt-USER_DATA_SIZE
returns-then-out-lt-USER_DATA_SIZE c =
    let a = c.args in
    data_short _ a.image.now a.out.now c.in-Ok.fields c.in-Ok.ensures c.if-out-lt-USER_DATA_SIZE.true c.number.ensures

pub returns-else-out-lt-USER_DATA_SIZE : goal.returns-else-out-lt-USER_DATA_SIZE
returns-else-out-lt-USER_DATA_SIZE c =
    let a = c.args in
    data_written _ a.image.now a.out.now c.in-Ok.fields c.in-Ok.ensures c.if-out-lt-USER_DATA_SIZE.false c.copy_to.ensures

pub returns-in-Err : goal.returns-in-Err
returns-in-Err c =
    let a = c.args in
    data_refused _ a.image.now a.out.now c.in-Err.refusal c.in-Err.ensures c.number-in-Err.ensures
