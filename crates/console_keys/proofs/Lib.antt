mod Heard
