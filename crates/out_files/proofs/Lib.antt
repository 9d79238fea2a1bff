mod GivesFacts
